use Rattle.std.proofs.Common.{ap, ◌∙◌, ◌-◌, ◌++◌}
use Rattle.heap_page.specs.Item.{normal, with_item}
use Rattle.heap_page.specs.Page.{items_of}
use Rattle.heap_page.specs.Put.{put_answer}
use Rattle.heap_redo.specs.TupleHeads.{head_bytes}
use Rattle.heap_redo.specs.After.{answered, put}
use Rattle.heap_redo.specs.Heads.{head_in}
use Rattle.heap_redo.proofs.line.check_tuple.Goals as goal

pub returns-in-Err : goal.returns-in-Err
unfolding put
returns-in-Err c =
    let items = items_of c.args.page.now in
    let changed = with_item items (c.args.line - 1) (normal (head_bytes (head_in c.args.header) ++ c.args.rest.now)) in
    c.at_line.ensures changed ∙ ap (answered c.args.line changed) (c.in-Err.ensures ∙ ap (λ head. put_answer items c.args.line (head ++ c.args.rest.now)) c.bytes.ensures)
