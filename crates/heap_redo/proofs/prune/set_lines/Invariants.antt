use Rattle.std.proofs.Common.{◌≡◌}
use Rattle.heap_page.specs.Page.{items_of}
use Rattle.heap_page.specs.Shown.{item_to}
use Rattle.heap_redo.specs.After.{set_lines}
use Rattle.heap_redo.proofs.prune.set_lines.Given as goal

abbrev pub invariant-loop-line : goal.invariant-loop-line
invariant-loop-line l =
    set_lines (item_to l.to) l.line-iterator (items_of l.page) ≡ set_lines (item_to l.to) l.lines (items_of l.initial.page)
