use Rattle.std.proofs.Common.{◌≡◌}
use Rattle.heap_page.specs.Page.{items_of}
use Rattle.heap_redo.specs.After.{redirect_lines}
use Rattle.heap_redo.proofs.prune.redirect_lines.Given as goal

abbrev pub invariant-loop-line : goal.invariant-loop-line
invariant-loop-line l =
    redirect_lines l.line-iterator (items_of l.page) ≡ redirect_lines l.lines (items_of l.initial.page)
