use Rattle.std.proofs.Common.{◌≡◌, map, take}
use Rattle.table_schema.specs.Description.{locator_in}
use Rattle.table_schema.proofs.tables.Tables.new.Given as goal

abbrev pub invariant-loop-table : goal.invariant-loop-table
invariant-loop-table l = l.locators.items ≡ map (locator_in l.database) (take l.table-index l.table-items)
