-- What the definitions promise together.
use Rattle.std.specs.Prelude.{◌≡◌, ℕ, List, Some, Result, Ok, Err}
use Rattle.table_schema.specs.declared.fault.SchemaFault.{SchemaFault}
use Rattle.table_schema.specs.declared.fault.SchemaFault.TheVariants.{Memory}
use Rattle.table_schema.specs.Description.{Description, DescribedTable, first_that, is_named, has_oid, has_file, table_at}
use Rattle.table_schema.specs.Reading.{Answers}

-- a text has one answer
abbrev pub OneDescription : Type 0
OneDescription = (text : List ℕ) (a b : Result Description SchemaFault) → Answers text a → Answers text b → a ≡ b

-- a text is never refused for want of memory
abbrev pub RefusalsAreNamed : Type 0
RefusalsAreNamed = (text : List ℕ) → Answers text (Err Memory) → ⊥

-- a table is found under its number by its name, by its oid and by its file
pub record IsFound (tables : Description) (number : ℕ) (table : DescribedTable) : Type 0 where
  pub by_name : first_that (is_named table.name) 0 tables.tables ≡ Some number
  pub by_oid : first_that (has_oid table.oid) 0 tables.tables ≡ Some number
  pub by_file : first_that (has_file table.file) 0 tables.tables ≡ Some number

-- no name, oid or file of the tables that a text describes is that of two
abbrev pub TablesAreApart : Type 0
TablesAreApart =
    (text : List ℕ) (tables : Description) (number : ℕ) (table : DescribedTable) → Answers text (Ok tables)
    → table_at tables number ≡ Some table → IsFound tables number table
