-- What a description says: a database, and its tables in the order of the text.
use Rattle.std.specs.Prelude.{ℕ, ◌+◌, Bool, ◌&&◌, ◌==◌, List, [], ◌∷◌, Option, Some, None, map, nat_eq, slice_get, if◌then◌else◌}
use Rattle.std.specs.Cmp.Lexicographic.{pointwise}
use Rattle.pg_types.specs.declared.names.Locator.{Locator}
use Rattle.heap_tuple.specs.declared.cell.Column.{Column}

-- a table: its name, oid and file (pg_class), and its columns with their names
pub record DescribedTable : Type 0 where
  pub name : List ℕ
  pub oid : ℕ
  pub file : ℕ
  pub column_names : List (List ℕ)
  pub columns : List Column

pub record Description : Type 0 where
  pub database : ℕ
  pub tables : List DescribedTable

-- the table with this number, from 0
abbrev pub table_at : Description → ℕ → Option DescribedTable
table_at described table = slice_get described.tables table

-- the table's file, in the default tablespace (pg_default, 1663)
abbrev pub locator_in : ℕ → DescribedTable → Locator
locator_in database table = record { space = 1663; db = database; rel = table.file }

-- the tables' files, in order of their numbers
abbrev pub locators : Description → List Locator
locators described = map (locator_in described.database) described.tables

-- the number of the first that passes a test, where the first one has this number
abbrev pub first_that : {A : Type 0} → (A → Bool) → ℕ → List A → Option ℕ
first_that test n [] = None
first_that test n (x ∷ xs) = if test x then Some n else first_that test (n + 1) xs

abbrev pub is_named : List ℕ → DescribedTable → Bool
is_named name table = pointwise nat_eq table.name name

abbrev pub has_oid : ℕ → DescribedTable → Bool
has_oid oid table = table.oid == oid

abbrev pub has_file : ℕ → DescribedTable → Bool
has_file file table = table.file == file

-- the number of the described table with this file
abbrev pub number_at : Description → Locator → Option ℕ
number_at described at =
    if at.space == 1663 && at.db == described.database then first_that (has_file at.rel) 0 described.tables
    else None
