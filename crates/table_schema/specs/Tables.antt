-- The described tables by name and by number.
use Rattle.std.specs.Prelude.{ℕ, List, [], Option, unwrap_or}
use Rattle.pg_types.specs.declared.names.Locator.{Locator}
use Rattle.heap_tuple.specs.declared.cell.Column.{Column}
use Rattle.table_schema.specs.Description.{Description, DescribedTable, first_that, is_named, locator_in, table_at}

-- the number of the table with this name, from 0
abbrev pub number_named : Description → List ℕ → Option ℕ
number_named tables name = first_that (is_named name) 0 tables.tables

-- in place of a table that is not there. A number that was found by name is never one of that
abbrev pub nameless : DescribedTable
nameless = record { name = []; oid = 0; file = 0; column_names = []; columns = [] }

-- the table with this number
abbrev pub table_with : Description → ℕ → DescribedTable
table_with tables number = unwrap_or (table_at tables number) nameless

-- and its file
abbrev pub file_of : Description → ℕ → Locator
file_of tables number = locator_in tables.database (table_with tables number)

-- and its columns
abbrev pub columns_of : Description → ℕ → List Column
columns_of tables number = (table_with tables number).columns
