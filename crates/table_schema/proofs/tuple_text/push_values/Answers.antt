use Rattle.std.proofs.Common.{◌≡◌, ◌∙◌, ℕ, List, Result, Ok, Err, subst, ◌+◌, ◌<◌, ◌≤◌, ◌++◌, drop, ap, sym, arith}
use Rattle.std.proofs.lemmas.List.{take_all}
use Rattle.heap_tuple.specs.Lent.{meant}
use Rattle.heap_tuple.specs.Tuple.{columns_of}
use Rattle.heap_tuple.specs.Values.{RowRefusal, SaysRow, cells_from}
use Rattle.heap_tuple.proofs.RowLoop.{has_column, missing_column}
use Rattle.table_schema.specs.RowText.{cell_text, tab_before}
use Rattle.table_schema.proofs.Values.{all_columns, column_printed, column_refused, finish, none_left, still_kept}
use Rattle.table_schema.proofs.tuple_text.push_values.Goals as goal
use Rattle.table_schema.proofs.tuple_text.push_values.Goals.{then-columns-i+in_ok-push_column, else-columns-i+in-Ok+in_ok-push_column-in-Ok}

pub loop-i-init : goal.loop-i-init
loop-i-init c = record {
  inside = omega arith;
  text = all_columns _ _ _;
  kept = take_all _ _ (omega arith);
}

pub returns-in-Err-clause-refused : goal.returns-in-Err-clause-refused
returns-in-Err-clause-refused c =
    let within : c.loop-i.i < columns_of c.args.tuple.now = omega (arith, c.columns.ensures, c.if-columns-i.false) in
    subst (λ fault. SaysRow (Err fault) (cells_from c.args.tuple.now 0 0 c.args.columns.now)) (sym c.fault_in.ensures)
    (column_refused c.args.tuple.now c.loop-i.i c.loop-i.at c.args.columns.now c.index-columns-i.result c.loop-i.out.items c.args.out.now.items c.in-Err.refusal _
    (omega arith) c.index-columns-i.is (has_column _ _ _ c.index-columns-i.result within ∙ sym c.in-Err.ensures.value) c.loop-i.invariant.text)

pub loop-i-preserved : goal.loop-i-preserved
loop-i-preserved c =
    let tuple = c.args.tuple.now in
    let columns = c.args.columns.now in
    let i = c.loop-i.i in
    let moved : ℕ → Result (List ℕ) RowRefusal = λ at. finish c.if-columns-i.out.items (i + 1) (drop (i + 1) columns) (cells_from tuple (i + 1) at (drop (i + 1) columns)) in
    let column = c.index-columns-i.result in
    elim c.if-columns-i.branch [
      | then-columns-i+in_ok-push_column w ↦
          let past : columns_of tuple ≤ i = omega (arith, c.columns.ensures, w.if-columns-i.true) in
          let pushed : c.if-columns-i.out.items ≡ c.loop-i.out.items ++ (tab_before i ++ cell_text column.kind (meant w.missing.result)) =
          ap (λ out. out.items) w.out-is ∙ w.in_ok-push_column.ensures in
          record {
            inside = omega (arith, w.at-is, c.loop-i.invariant.inside);
            text =
                ap moved w.at-is
                ∙ column_printed tuple i c.loop-i.at c.loop-i.at columns column c.loop-i.out.items _ (meant w.missing.result) _ (omega arith) c.index-columns-i.is
                (missing_column _ _ _ column past ∙ ap (λ cell. Ok (cell, c.loop-i.at)) (sym w.missing.ensures)) c.loop-i.invariant.text pushed;
            kept = still_kept c.args.out.now.items c.loop-i.out.items _ _ c.loop-i.invariant.kept pushed;
          }
      | else-columns-i+in-Ok+in_ok-push_column-in-Ok w ↦
          let within : i < columns_of tuple = omega (arith, c.columns.ensures, w.if-columns-i.false) in
          let pushed : c.if-columns-i.out.items ≡ c.loop-i.out.items ++ (tab_before i ++ cell_text column.kind (meant w.in-Ok.value)) =
          ap (λ out. out.items) w.out-is ∙ w.in_ok-push_column-in-Ok.ensures in
          record {
            inside = omega (arith, w.at-is, w.in-Ok.ensures.inside);
            text =
                ap moved w.at-is
                ∙ column_printed tuple i c.loop-i.at w.in-Ok.end columns column c.loop-i.out.items _ (meant w.in-Ok.value) _ (omega arith) c.index-columns-i.is
                (has_column _ _ _ column within ∙ sym w.in-Ok.ensures.value) c.loop-i.invariant.text pushed;
            kept = still_kept c.args.out.now.items c.loop-i.out.items _ _ c.loop-i.invariant.kept pushed;
          }
    ]

pub returns-clause-text : goal.returns-clause-text
returns-clause-text c =
    sym c.loop-i.invariant.text
    ∙ none_left c.args.tuple.now c.loop-i.i c.loop-i.at c.args.columns.now c.loop-i.out.items (omega arith)
