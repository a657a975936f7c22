use Rattle.std.proofs.Common.{ap, ◌∙◌, ◌-◌}
use Rattle.heap_page.specs.Item.{with_item}
use Rattle.heap_page.specs.Page.{items_of}
use Rattle.heap_page.specs.Shown.{item_to}
use Rattle.heap_redo.specs.After.{answered, set_line}
use Rattle.heap_redo.proofs.prune.set_line.Goals as goal

pub returns-in-Err-clause-answer : goal.returns-in-Err-clause-answer
unfolding set_line
returns-in-Err-clause-answer c =
    let changed = with_item (items_of c.args.page.now) (c.args.line - 1) (item_to c.args.to) in
    c.at_line.ensures changed ∙ ap (answered c.args.line changed) c.in-Err.ensures.answer
