use Rattle.std.proofs.Common.{◌≡◌}
use Rattle.heap_page.specs.Page.{items_of}
use Rattle.heap_redo.specs.After.{put_listed}
use Rattle.heap_redo.proofs.version.put_each.Given as goal

abbrev pub invariant-loop-line : goal.invariant-loop-line
invariant-loop-line l =
    put_listed l.xid l.block l.line-iterator l.rest (items_of l.page)
    ≡ put_listed l.xid l.block l.lines l.tuples (items_of l.initial.page)
