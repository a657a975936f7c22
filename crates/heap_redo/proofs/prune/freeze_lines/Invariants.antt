use Rattle.std.proofs.Common.{◌≡◌}
use Rattle.heap_page.specs.Page.{items_of}
use Rattle.heap_redo.specs.After.{freeze_lines}
use Rattle.heap_redo.proofs.prune.freeze_lines.Given as goal

abbrev pub invariant-loop-line : goal.invariant-loop-line
invariant-loop-line l =
    freeze_lines l.plan l.line-iterator (items_of l.page) ≡ freeze_lines l.plan l.plan.lines (items_of l.initial.page)
