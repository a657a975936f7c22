-- What the file of a description says.
use Rattle.std.specs.Prelude.{◌≡◌, ℕ, List, Option, None, Some, Result}
use Rattle.table_schema.specs.Description.{Description}
use Rattle.table_schema.specs.Reading.{Answers}
use Rattle.table_schema.specs.declared.fault.SchemaFault.{SchemaFault}

-- there is no such file; or its text describes these tables, or is refused so
pub data Reading : Type 0 where
  Absent : Reading
  Read : (answer : Result Description SchemaFault) → Reading

-- what is read of a file with this text, or of an absent one
abbrev pub AnswersFile : Option (List ℕ) → Reading → Type 0
AnswersFile None reading = reading ≡ Absent
AnswersFile (Some text) reading = (answer : Result Description SchemaFault) × Answers text answer × (reading ≡ Read answer)
