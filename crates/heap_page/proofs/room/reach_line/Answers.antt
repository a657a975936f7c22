use Rattle.std.proofs.Common.{◌+◌, arith}
use Rattle.heap_page.proofs.Changes.{bounds}
use Rattle.heap_page.proofs.Rooms.{same-becomes}
use Rattle.heap_page.proofs.room.reach_line.Goals as goal

pub overflow_add-k : goal.overflow_add-k
overflow_add-k c = let b = bounds c.args.page.now c.requires.laid in omega arith

pub returns-else-line_count-k : goal.returns-else-line_count-k
returns-else-line_count-k c = same-becomes c.args.page.now (c.args.k + 1) c.requires.laid (omega arith)
