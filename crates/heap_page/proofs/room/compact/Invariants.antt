use Rattle.std.proofs.Common.{◌+◌, ◌*◌, ◌-◌, take}
use Rattle.heap_page.specs.Item.{trimmed, room_in}
use Rattle.heap_page.specs.Page.{items_of}
use Rattle.heap_page.specs.Change.{Becomes}
use Rattle.heap_page.proofs.room.compact.Given as goal

abbrev pub invariant-loop-k : goal.invariant-loop-k
invariant-loop-k l =
    Becomes l.page l.packed (trimmed (take l.k (items_of l.page))) (24 + 4 * l.k) (8192 - room_in (take l.k (items_of l.page)))
