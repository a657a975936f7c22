use Rattle.std.proofs.Common.{ap, ◌∙◌}
use Rattle.heap_page.specs.Page.{items_of}
use Rattle.heap_page.specs.Put.{set_head_answer}
use Rattle.heap_redo.specs.TupleHeads.{head_bytes}
use Rattle.heap_redo.specs.After.{answered, with_header}
use Rattle.heap_redo.specs.Heads.{head_in}
use Rattle.heap_redo.proofs.line.check_header.Goals as goal

pub returns-in-Err : goal.returns-in-Err
returns-in-Err c =
    let items = items_of c.args.page.now in
    let changed = with_header items c.args.line (head_bytes (head_in c.args.header)) in
    c.at_line.ensures changed ∙ ap (answered c.args.line changed) (c.in-Err.ensures ∙ ap (set_head_answer items c.args.line) c.bytes.ensures)
