-- A text that is read up to one byte behind the greatest length is answered as the whole text.
use Rattle.std.proofs.Common.{◌≡◌, ℕ, List, Option, Some, Result, Ok, Err, IfOk}
use Rattle.pg_types.specs.declared.fail.Fail.{Fail}
use Rattle.table_schema.specs.Description.{Description}
use Rattle.table_schema.specs.Reading.{Answers}
use Rattle.table_schema.specs.declared.fault.SchemaFault.{SchemaFault}
use Rattle.schema_file.specs.SchemaFile.{AnswersFile, Read}
use Rattle.schema_file.specs.Meaning.{reading}
use Rattle.schema_file.specs.declared.file.SchemaFile.{SchemaFile}

-- a text that was read is that of some file
pub some_text :
    (result : Result SchemaFile Fail) (text : List ℕ)
    → IfOk result (λ file. (answer : Result Description SchemaFault) × Answers text answer × (reading file ≡ Read answer))
    → IfOk result (λ file. (contents : Option (List ℕ)) × AnswersFile contents (reading file))
some_text (Ok file) text said = (Some text, said)
some_text (Err fail) text said = tt
