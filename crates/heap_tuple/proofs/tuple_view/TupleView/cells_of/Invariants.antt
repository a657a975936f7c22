use Rattle.std.proofs.Common.{◌≡◌, ◌≤◌, ◌-◌, length, drop}
use Rattle.heap_tuple.specs.Tuple.{hoff_of}
use Rattle.heap_tuple.specs.Values.{cells_from}
use Rattle.heap_tuple.proofs.RowLoop.{after_cells}
use Rattle.heap_tuple.proofs.tuple_view.TupleView.cells_of.Given as goal

abbrev pub invariant-loop-i : goal.invariant-loop-i
invariant-loop-i l =
    (l.at ≤ length l.self - hoff_of l.self)
    × (after_cells l.row (cells_from l.self l.i l.at (drop l.i l.columns)) ≡ cells_from l.self 0 0 l.columns)
