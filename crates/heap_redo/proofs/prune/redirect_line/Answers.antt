use Rattle.std.proofs.Common.{arith, ap, sym, ◌∙◌, List, Result, Err}
use Rattle.std.proofs.lemmas.Grind.{common_steps}
use Rattle.heap_page.specs.Item.{Item}
use Rattle.heap_page.specs.Page.{items_of}
use Rattle.heap_redo.specs.After.{BlockRefusal}
use Rattle.heap_redo.proofs.Pruned.{line-small, redirect-from, redirect-to, redirect-done}
use Rattle.heap_redo.proofs.prune.redirect_line.Goals as goal

pub returns-in_err-check_used : goal.returns-in_err-check_used
returns-in_err-check_used c =
    let err : BlockRefusal → Result (List Item) BlockRefusal = λ refusal. Err refusal in
    let unused_ = c.in_err-check_used.ensures.err in
    let refused = ap err unused_.0 ∙ sym (redirect-from c.args.line (items_of c.args.page.now) unused_.1) in
    grind (arith, common_steps, refused)

pub returns-in_err-check_used-2 : goal.returns-in_err-check_used-2
returns-in_err-check_used-2 c =
    let err : BlockRefusal → Result (List Item) BlockRefusal = λ refusal. Err refusal in
    let unused_ = c.in_err-check_used-2.ensures.err in
    let refused = ap err unused_.0 ∙ sym (redirect-to c.args.line (items_of c.args.page.now) c.in_ok-check_used.ensures.used unused_.1) in
    grind (arith, common_steps, refused)

pub set_line-requires : goal.set_line-requires
set_line-requires c = line-small c.args.page.now c.args.line.to c.keeps_rule.ensures c.in_ok-check_used-2.ensures.used

pub returns : goal.returns
returns c = c.set_line.ensures.answer ∙ sym (redirect-done c.args.line (items_of c.args.page.now) c.in_ok-check_used-2.ensures.used)
