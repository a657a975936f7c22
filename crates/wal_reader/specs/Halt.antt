-- Why a record's text is not gathered on: for good, or since the page that should go on with it says that the record was
-- given up, and that another one begins at a place.
use Rattle.std.specs.Prelude.{ℕ}
use Rattle.wal_reader.specs.declared.types.NoRecord.{NoRecord}

pub data Halt : Type 0 where
  Stops : NoRecord → Halt
  GivesUp : (place : ℕ) → Halt
