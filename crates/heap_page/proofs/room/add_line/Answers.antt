use Rattle.std.proofs.Common.{arith}
use Rattle.heap_page.proofs.Overwrite.{tuple-long}
use Rattle.heap_page.proofs.Rooms.{parts-join, tuple-added}
use Rattle.heap_page.proofs.room.add_line.Goals as goal

pub part-requires : goal.part-requires
part-requires c = omega (arith, tuple-long c.in-Normal.bytes.now c.in-Normal.ensures.rule)

pub overflow_sub-bytes : goal.overflow_sub-bytes
overflow_sub-bytes c = omega (arith, tuple-long c.in-Normal.bytes.now c.in-Normal.ensures.rule)

pub part-requires-in-Normal : goal.part-requires-in-Normal
part-requires-in-Normal c = omega (arith, tuple-long c.in-Normal.bytes.now c.in-Normal.ensures.rule)

pub returns-in-Normal : goal.returns-in-Normal
returns-in-Normal c =
    tuple-added c.args.page.now c.place.new.page c.args.k c.in-Normal.bytes.now c.part.result.now c.part-in-Normal.result.now _
    c.requires.lines c.requires.multiple
    (parts-join c.in-Normal.bytes.now _ _ (omega (arith, tuple-long c.in-Normal.bytes.now c.in-Normal.ensures.rule)) c.part.ensures c.part-in-Normal.ensures)
    c.in-Normal.ensures.item c.place.ensures
