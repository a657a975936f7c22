use Rattle.std.proofs.Common.{◌≡◌, [], length, drop}
use Rattle.toml.specs.View.{items_view}
use Rattle.table_schema.specs.Reading.{tables_from}
use Rattle.table_schema.proofs.description.tables_of.Given as goal

abbrev pub invariant-loop-value : goal.invariant-loop-value
invariant-loop-value l = record {
  said : tables_from l.tables.items (items_view (drop l.value-index l.values)) ≡ tables_from [] (items_view l.values);
  count : length l.tables.items ≡ l.value-index;
}
