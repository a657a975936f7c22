-- What the calls that read a whole record say.
use Rattle.std.specs.Prelude.{ℕ, ◌≡◌, Option, Some, None, Result, Ok, Err, List}
use Rattle.wal_record.specs.declared.types.PrevRule.{PrevRule}
use Rattle.wal_record.specs.declared.view.RecordShape.{RecordShape}
use Rattle.wal_record.specs.Record.{Record}
use Rattle.wal_record.specs.Decoded.{decoded}
use Rattle.wal_record.specs.Shapes.{HasShape, shaped}
use Rattle.wal_reader.specs.declared.types.EndWhy.TheVariants.{Layout}
use Rattle.wal_reader.specs.declared.types.NoRecord.{NoRecord}
use Rattle.wal_reader.specs.declared.types.NoRecord.TheVariants.{End, Compressed, TooLong}
use Rattle.wal_reader.specs.Halt.{Halt, Stops, GivesUp}
use Rattle.wal_reader.specs.declared.types.Taken.{Taken}
use Rattle.wal_reader.specs.declared.types.Trouble.{Trouble}
use Rattle.wal_reader.specs.declared.types.Trouble.TheVariants as trouble
use Rattle.wal_reader.specs.Calls.{Gathering, IfHalts, text_at, IsThere}
use Rattle.wal_reader.specs.Step.{Entry, end_after, unless_faulty}

-- the text is a record that begins and ends there
abbrev pub IsEntry : {E : Type 0} → List ℕ → ℕ → ℕ → PrevRule → Result Entry E → Type 0
IsEntry text start end prev expected =
    (record_ : Record) × (decoded text start prev ≡ Ok record_) × (expected ≡ Ok (record { start = start; end = end; record_ = record_ }))

-- a record was read where an attempt expects it
abbrev pub SaysAttempt : Result Taken Trouble → Gathering → PrevRule → Result Entry Halt → Type 0
SaysAttempt (Ok taken) source prev expected = IsEntry (text_at source taken.start taken.lent) taken.start taken.end prev expected
SaysAttempt (Err fault) source prev expected = IfHalts fault (λ halt. expected ≡ Err halt)

-- the text is a record, which ends where its text ends before `behind`
abbrev pub SaysEnd : Result Taken Trouble → Gathering → ℕ → Option ℕ → PrevRule → ℕ → Type 0
SaysEnd (Ok taken) source start lent prev behind =
    (record_ : Record) × (decoded (text_at source start lent) start prev ≡ Ok record_)
    × (taken ≡ record { start = start; end = end_after source.segsize record_.head behind; lent = lent; shape = taken.shape })
SaysEnd (Err fault) source start lent prev behind = IfHalts fault (λ halt. unless_faulty (decoded (text_at source start lent) start prev) ≡ Err halt)

-- where another record begins, if the one that was to be read was given up
abbrev pub given_up_at : Result Taken Trouble → Option ℕ
given_up_at (Ok taken) = None
given_up_at (Err (trouble.Stops why)) = None
given_up_at (Err (trouble.GivesUp place)) = Some place
given_up_at (Err trouble.Log) = None
given_up_at (Err trouble.Memory) = None

-- where the record that is read stands in such a place
abbrev pub trouble_in_place : Trouble → Trouble
trouble_in_place (trouble.Stops (End why)) = trouble.Stops (End why)
trouble_in_place (trouble.Stops Compressed) = trouble.Stops (End Layout)
trouble_in_place (trouble.Stops TooLong) = trouble.Stops (End Layout)
trouble_in_place (trouble.GivesUp place) = trouble.Stops (End Layout)
trouble_in_place trouble.Log = trouble.Log
trouble_in_place trouble.Memory = trouble.Memory

-- why no record is read, where no other one may stand in the place of one that is given up
abbrev pub ended_by : Halt → NoRecord
ended_by (Stops why) = why
ended_by (GivesUp place) = End Layout

-- the expected record was read
abbrev pub SaysStep : Result Taken Trouble → Gathering → PrevRule → Result Entry NoRecord → Type 0
SaysStep (Ok taken) source prev expected = IsEntry (text_at source taken.start taken.lent) taken.start taken.end prev expected
SaysStep (Err fault) source prev expected = IfHalts fault (λ halt. expected ≡ Err (ended_by halt))

-- the text is a record whose parts stand so
pub record IsWhole (text : List ℕ) (start : ℕ) (prev : PrevRule) (shape : RecordShape) : Type 0 where
  pub is : decoded text start prev ≡ Ok (shaped text shape)
  pub has : HasShape text shape

-- the record that was read is there and whole
pub record IsRead (source : Gathering) (taken : Taken) (prev : PrevRule) : Type 0 where
  pub there : IsThere source taken.start taken.lent
  pub whole : IsWhole (text_at source taken.start taken.lent) taken.start prev taken.shape
