use Rattle.std.proofs.Common.{◌+◌, Ok, ap, arith, sym, ◌∙◌}
use Rattle.table_schema.proofs.Steps.{column_done, column_refused, columns_end, grown}
use Rattle.table_schema.proofs.columns.columns_of.Goals as goal

pub returns-in-Err : goal.returns-in-Err
returns-in-Err c =
    column_refused c.args.table c.loop-value.names.items c.loop-value.columns.items c.args.values.now c.loop-value.value-index c.value-item.result c.in-Err.fault _
    c.loop-value-test.true c.value-item.is (rw c.as_slice.ensures.value at c.in-Err.ensures) c.loop-value.invariant.said

pub loop-value-preserved : goal.loop-value-preserved
loop-value-preserved c = record {
  said =
      column_done c.args.table c.loop-value.names.items _ c.loop-value.columns.items _ c.args.values.now c.loop-value.value-index c.value-item.result c.in-Ok.name c.in-Ok.column _
      c.loop-value-test.true c.value-item.is (rw c.as_slice.ensures.value at c.in-Ok.ensures) c.loop-value.invariant.said c.in_ok-push-in-Ok.ensures.items c.in_ok-push-in-Ok-2.ensures.items;
  even =
      grown c.loop-value.names.items c.in-Ok.name _ c.in_ok-push-in-Ok.ensures.items
      ∙ ap (λ n. n + 1) c.loop-value.invariant.even
      ∙ sym (grown c.loop-value.columns.items c.in-Ok.column _ c.in_ok-push-in-Ok-2.ensures.items);
}

pub returns : goal.returns
returns c =
    sym c.loop-value.invariant.said
    ∙ columns_end c.args.table c.loop-value.names.items c.loop-value.columns.items c.args.values.now c.loop-value.value-index (omega arith)
    ∙ ap (λ r. Ok r) (sym c.new.ensures)
