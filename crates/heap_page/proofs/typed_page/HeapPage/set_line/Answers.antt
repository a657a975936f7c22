use Rattle.std.proofs.Common.{◌∙◌, sym, ap, arith}
use Rattle.heap_page.specs.Item.{is_unused, numbered}
use Rattle.heap_page.specs.Page.{items_of}
use Rattle.heap_page.proofs.Header.{in_use, laid-page}
use Rattle.heap_page.proofs.typed_page.HeapPage.set_line.Goals as goal

pub change_line-requires-clause-laid : goal.change_line-requires-clause-laid
change_line-requires-clause-laid c =
    (in_use c.self.inside.bytes c.args.line c.self.invariant
    (ap (λ page. is_unused (numbered (items_of page) c.args.line)) c.self.view_is ∙ sym c.is_unused.ensures ∙ c.if-is_unused.false)).laid

pub change_line-requires-clause-line : goal.change_line-requires-clause-line
change_line-requires-clause-line c =
    (in_use c.self.inside.bytes c.args.line c.self.invariant
    (ap (λ page. is_unused (numbered (items_of page) c.args.line)) c.self.view_is ∙ sym c.is_unused.ensures ∙ c.if-is_unused.false)).below

pub invariant_of-self : goal.invariant_of-self
invariant_of-self c = laid-page c.change_line.new.page (omega arith) c.change_line.ensures.laid
