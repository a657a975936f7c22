use Rattle.std.proofs.Common.{Ok, ap, arith, sym, ◌∙◌}
use Rattle.table_schema.proofs.Steps.{grown, table_done, table_refused, tables_all}
use Rattle.table_schema.proofs.description.tables_of.Goals as goal

pub returns-in-Err : goal.returns-in-Err
returns-in-Err c =
    table_refused c.args.database c.loop-value.tables.items c.args.values.now c.loop-value.value-index c.value-item.result c.in-Err.fault
    c.loop-value-test.true c.value-item.is (rw c.as_slice.ensures.value at c.in-Err.ensures) c.loop-value.invariant.said

pub loop-value-preserved : goal.loop-value-preserved
loop-value-preserved c = record {
  said =
      table_done c.loop-value.tables.items _ c.args.values.now c.loop-value.value-index c.value-item.result c.in-Ok.table _
      c.loop-value-test.true c.value-item.is (rw c.as_slice.ensures.value at c.in-Ok.ensures) c.loop-value.invariant.said c.in_ok-push-in-Ok.ensures.items;
  count = omega (arith, grown c.loop-value.tables.items c.in-Ok.table _ c.in_ok-push-in-Ok.ensures.items, c.loop-value.invariant.count);
}

pub returns : goal.returns
returns c =
    tables_all c.args.database c.loop-value.tables.items c.args.values.now c.loop-value.value-index (omega arith) c.loop-value.invariant.said
    ∙ ap (λ r. Ok r) (sym c.in_ok-new.ensures)
