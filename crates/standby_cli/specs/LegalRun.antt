-- A run over a log that a primary could write.
use Rattle.std.specs.Prelude.{ℕ, List, Option}
use Rattle.table_schema.specs.Description.{Description}
use Rattle.standby_model.specs.Archived.{told_by}
use Rattle.legal_session.specs.AbstractStandby.{IsLegal, World}
use Rattle.run_model.specs.Origin.{origin}
use Rattle.run_model.specs.Starts.{Start, Rejects, Scans, Holds}

-- the described tables, the log that the archive's files tell, and what leads from a subtransaction to its top transaction
abbrev pub world : (ℕ → ℕ) → (List ℕ → Option (List ℕ)) → Description → World
world top files tables = record { tables = tables; told = told_by files; top = top }

-- a primary with the tables of the run could write each front of the log that the files tell
abbrev pub IsLegalRun : (ℕ → ℕ) → (List ℕ → Option (List ℕ)) → Start → Type 0
IsLegalRun top files (Rejects rejection) = Unit {0}
IsLegalRun top files (Scans tables name) = IsLegal (world top files tables) origin.redo.0
IsLegalRun top files (Holds tables) = IsLegal (world top files tables) origin.redo.0
