use Rattle.std.proofs.Common.{◌≡◌, [], length, drop}
use Rattle.toml.specs.View.{items_view}
use Rattle.table_schema.specs.Reading.{columns_from}
use Rattle.table_schema.proofs.columns.columns_of.Given as goal

abbrev pub invariant-loop-value : goal.invariant-loop-value
invariant-loop-value l = record {
  said : columns_from l.table l.names.items l.columns.items (items_view (drop l.value-index l.values)) ≡ columns_from l.table [] [] (items_view l.values);
  even : length l.names.items ≡ length l.columns.items;
}
