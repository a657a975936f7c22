use Rattle.std.proofs.Common.{◌+◌, ◌<◌, ◌≤◌, [], ◌∷◌, ◌++◌, drop, ap, sym, ◌∙◌, arith}
use Rattle.heap_tuple.specs.Lent.{meant}
use Rattle.heap_tuple.specs.Tuple.{columns_of}
use Rattle.heap_tuple.specs.Values.{cells_from}
use Rattle.heap_tuple.proofs.RowLoop.{after_cells, column_done, column_fault, after_all, has_column, missing_column}
use Rattle.heap_tuple.proofs.tuple_view.TupleView.cells_of.Goals as goal
use Rattle.heap_tuple.proofs.tuple_view.TupleView.cells_of.Goals.{then-columns-i+in_ok-missing_cell+in_ok-push, else-columns-i+in-Ok+in_ok-push_owned-in-Ok}

pub returns-in-Err : goal.returns-in-Err
returns-in-Err c =
    let within : c.loop-i.i < columns_of c.args.self.now = omega (arith, c.columns.ensures, c.if-columns-i.false) in
    column_fault _ _ _ _ _ c.loop-i.row c.in-Err.refusal _ _ (omega arith) c.index-columns-i.is
    (has_column _ _ _ c.index-columns-i.result within ∙ sym c.in-Err.ensures.value) c.loop-i.invariant.1 c.fault_in.ensures

pub loop-i-preserved : goal.loop-i-preserved
loop-i-preserved c = elim c.if-columns-i.branch [
  | then-columns-i+in_ok-missing_cell+in_ok-push w ↦
      let past : columns_of c.args.self.now ≤ c.loop-i.i = omega (arith, c.columns.ensures, w.if-columns-i.true) in (
        omega (arith, w.at-is, c.loop-i.invariant.0),
        ap (λ at. after_cells c.if-columns-i.row (cells_from c.args.self.now (c.loop-i.i + 1) at (drop (c.loop-i.i + 1) c.args.columns.now))) w.at-is
            ∙ column_done _ _ _ _ _ _ c.loop-i.row _ _ _ (omega arith) c.index-columns-i.is (missing_column _ _ _ _ past) c.loop-i.invariant.1 (w.row-is ∙ w.in_ok-push.ensures.ok ∙ ap (λ cell. c.loop-i.row ++ cell ∷ []) w.in_ok-missing_cell.ensures),
      )
  | else-columns-i+in-Ok+in_ok-push_owned-in-Ok w ↦
      let within : c.loop-i.i < columns_of c.args.self.now = omega (arith, c.columns.ensures, w.if-columns-i.false) in (
        omega (arith, w.at-is, w.in-Ok.ensures.inside),
        ap (λ at. after_cells c.if-columns-i.row (cells_from c.args.self.now (c.loop-i.i + 1) at (drop (c.loop-i.i + 1) c.args.columns.now))) w.at-is
            ∙ column_done _ _ _ w.in-Ok.end _ c.index-columns-i.result c.loop-i.row _ (meant w.in-Ok.value) _ (omega arith) c.index-columns-i.is
            (has_column _ _ _ c.index-columns-i.result within ∙ sym w.in-Ok.ensures.value) c.loop-i.invariant.1 (w.row-is ∙ w.in_ok-push_owned-in-Ok.ensures),
      )
]

pub returns : goal.returns
returns c = sym c.loop-i.invariant.1 ∙ after_all _ _ _ _ c.loop-i.row (omega arith)
