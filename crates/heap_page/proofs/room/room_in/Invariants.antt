use Rattle.std.proofs.Common.{◌≡◌, ◌*◌, ◌≤◌, take, sum_by}
use Rattle.heap_page.specs.Item.{room_of}
use Rattle.heap_page.specs.Page.{lines_of}
use Rattle.heap_page.proofs.room.room_in.Given as goal

abbrev pub invariant-loop-k : goal.invariant-loop-k
invariant-loop-k l = (l.total ≡ sum_by room_of (take l.k (lines_of l.page))) × (l.total ≤ 65544 * l.k)
