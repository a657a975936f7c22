use Rattle.std.proofs.Common.{◌∙◌, arith}
use Rattle.heap_page.proofs.Header.{lines-bound}
use Rattle.heap_page.proofs.Rooms.{room_in-lines}
use Rattle.heap_page.proofs.room.room_in.Goals as goal

pub overflow_add-total : goal.overflow_add-total
overflow_add-total c = omega (arith, lines-bound c.args.page.now c.requires)

pub returns-clause-room : goal.returns-clause-room
returns-clause-room c = c.loop-k.invariant.0 ∙ room_in-lines c.args.page.now c.loop-k.k (omega arith)

pub returns-clause-bound : goal.returns-clause-bound
returns-clause-bound c = omega (arith, lines-bound c.args.page.now c.requires)
