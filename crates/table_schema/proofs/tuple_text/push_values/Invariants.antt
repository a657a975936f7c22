use Rattle.std.proofs.Common.{◌≡◌, ◌≤◌, ◌-◌, length, drop, take}
use Rattle.heap_tuple.specs.Tuple.{hoff_of}
use Rattle.heap_tuple.specs.Values.{cells_from}
use Rattle.table_schema.specs.RowText.{printed}
use Rattle.table_schema.proofs.Values.{finish}
use Rattle.table_schema.proofs.tuple_text.push_values.Given as goal

abbrev pub invariant-loop-i : goal.invariant-loop-i
invariant-loop-i l = record {
  inside : l.at ≤ length l.tuple - hoff_of l.tuple;
  text :
      finish l.out.items l.i (drop l.i l.columns) (cells_from l.tuple l.i l.at (drop l.i l.columns))
      ≡ printed l.columns l.initial.out.items (cells_from l.tuple 0 0 l.columns);
  kept : take (length l.initial.out.items) l.out.items ≡ l.initial.out.items;
}
