use Rattle.std.proofs.Common.{arith}
use Rattle.heap_page.proofs.Changes.{bounds}
use Rattle.heap_page.proofs.room.add_state.Goals as goal

pub overflow_add-k : goal.overflow_add-k
overflow_add-k c = let b = bounds c.args.page.now c.requires.laid in omega arith
