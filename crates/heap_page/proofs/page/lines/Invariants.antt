use Rattle.std.proofs.Common.{◌≡◌, ◌≤◌, take}
use Rattle.heap_page.specs.Item.{trimmed}
use Rattle.heap_page.specs.Page.{line_count, lines_of, items_of}
use Rattle.heap_page.proofs.page.lines.Given as goal

abbrev pub invariant-loop-count : goal.invariant-loop-count
invariant-loop-count l = (l.count ≤ line_count l.page) × (items_of l.page ≡ trimmed (take l.count (lines_of l.page)))

abbrev pub decreases-loop-count : goal.decreases-loop-count
decreases-loop-count l = l.count
