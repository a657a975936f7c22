-- How a run begins by what was read of the description.
use Rattle.std.proofs.Common.{◌≡◌, ℕ, List, Option, None, Some, IfSome}
use Rattle.table_schema.specs.Description.{Description}
use Rattle.schema_file.specs.SchemaFile.{Reading, AnswersFile}
use Rattle.run_model.specs.Starts.{Start, StartsOver, schema_name, start_by}

-- where the base folder tells its files
pub starts_by :
    (begins : Description → Start) (base : Option (List ℕ → Option (List ℕ))) (reading : Reading) (start : Start)
    → IfSome base (λ described. AnswersFile (described schema_name) reading) → start ≡ start_by begins reading
    → IfSome base (λ described. StartsOver described begins start)
starts_by begins None reading start is e = tt
starts_by begins (Some described) reading start is e = (reading, is, e)
