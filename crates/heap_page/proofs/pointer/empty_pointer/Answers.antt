use Rattle.std.proofs.Common.{◌≡◌, ◌+◌, ◌∙◌, sym, ap, arith}
use Rattle.heap_page.specs.Page.{pointer_with, item_of}
use Rattle.heap_page.specs.Shown.{item_to}
use Rattle.heap_page.proofs.Changes.{item_of-zero, item_of-dead, item_of-redirect, redirect_fits}
use Rattle.heap_page.proofs.pointer.empty_pointer.Goals as goal

pub returns-in-Unused-clause-item : goal.returns-in-Unused-clause-item
returns-in-Unused-clause-item c = λ page. item_of-zero page ∙ ap item_to (sym c.in-Unused.is)

pub returns-in-Redirect-clause-item : goal.returns-in-Redirect-clause-item
returns-in-Redirect-clause-item c = λ page.
    let word : c.in-Redirect.line + 65536 ≡ pointer_with c.in-Redirect.line 2 0 = omega arith in
    ap (item_of page) word ∙ item_of-redirect page c.in-Redirect.line (redirect_fits _ _ c.in-Redirect.is c.requires) ∙ ap item_to (sym c.in-Redirect.is)

pub returns-in-Dead-clause-item : goal.returns-in-Dead-clause-item
returns-in-Dead-clause-item c = λ page. item_of-dead page ∙ ap item_to (sym c.in-Dead.is)
