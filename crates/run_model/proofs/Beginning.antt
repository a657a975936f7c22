-- A run begins in one way.
use Rattle.std.proofs.Common.{◌≡◌, ℕ, List, Option, None, Some, Result, sym, ap, ◌∙◌}
use Rattle.table_schema.specs.Description.{Description}
use Rattle.table_schema.specs.declared.fault.SchemaFault.{SchemaFault}
use Rattle.table_schema.proofs.Named.{one_description_holds}
use Rattle.schema_file.specs.SchemaFile.{Reading, AnswersFile, Read}
use Rattle.run_model.specs.Laws.{OneStart}
use Rattle.run_model.specs.Starts.{Command, ScansTable, HoldsSession, NoCommand, Start, Scans, Holds, StartsOver, StartsWith, schema_name, start_by, command_of}

-- one reading is that of a file
one_reading : (file : Option (List ℕ)) (a b : Reading) → AnswersFile file a → AnswersFile file b → a ≡ b
one_reading None a b p q = p ∙ sym q
one_reading (Some text) a b (answer, is, e) (other, was, f) =
    e ∙ ap (λ (r : Result Description SchemaFault). Read r) (one_description_holds text answer other is was) ∙ sym f

one_start_over :
    (base : List ℕ → Option (List ℕ)) (begins : Description → Start) (a b : Start) → StartsOver base begins a
    → StartsOver base begins b → a ≡ b
one_start_over base begins a b (reading, is, e) (other, was, f) =
    e ∙ ap (start_by begins) (one_reading (base schema_name) reading other is was) ∙ sym f

one_start_with :
    (command : Command) (base : List ℕ → Option (List ℕ)) (a b : Start) → StartsWith command base a → StartsWith command base b
    → a ≡ b
one_start_with NoCommand base a b p q = p ∙ sym q
one_start_with (ScansTable name) base a b p q = one_start_over base (λ (tables : Description). Scans tables name) a b p q
one_start_with HoldsSession base a b p q = one_start_over base Holds a b p q

pub one_start : OneStart
one_start words base a b p q = one_start_with (command_of words) base a b p q
