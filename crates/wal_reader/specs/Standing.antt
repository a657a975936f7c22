-- Where a reader stands, and what it answers.
use Rattle.std.specs.Prelude.{ℕ, ◌≡◌, ◌+◌, ◌^◌, ◌<◌, ◌≤◌, Option, Some, None, Result, Ok, Err, List}
use Rattle.std.specs.Option.{ForSome}
use Rattle.pg_types.specs.declared.names.Lsn.{Lsn}
use Rattle.wal_record.specs.declared.types.PrevRule.{PrevRule}
use Rattle.wal_record.specs.declared.types.PrevRule.TheVariants.{Is}
use Rattle.wal_record.specs.declared.types.RecordFault.{RecordFault}
use Rattle.wal_record.specs.declared.view.RecordShape.{RecordShape}
use Rattle.wal_record.specs.Record.{Record}
use Rattle.wal_record.specs.Decoded.{decoded}
use Rattle.wal_reader.specs.declared.types.EndWhy.TheVariants.{Layout}
use Rattle.wal_reader.specs.declared.types.Taken.{Taken}
use Rattle.wal_reader.specs.declared.types.Trouble.{Trouble}
use Rattle.wal_reader.specs.declared.types.Trouble.TheVariants as trouble
use Rattle.wal_reader.specs.declared.types.Next.{Next}
use Rattle.wal_reader.specs.declared.types.Next.TheVariants as next
use Rattle.wal_reader.specs.declared.types.ReadFault.{ReadFault}
use Rattle.wal_reader.specs.declared.types.ReadFault.TheVariants as fault
use Rattle.wal_reader.specs.declared.types.NoRecord.{NoRecord}
use Rattle.wal_reader.specs.declared.types.NoRecord.TheVariants.{End, Compressed, TooLong}
use Rattle.wal_reader.specs.Step.{Entry}
use Rattle.wal_reader.specs.Kept.{Covers, piece_of}
use Rattle.wal_reader.specs.Calls.{Gathering, IfHalts}
use Rattle.wal_reader.specs.Records.{IsEntry, IsWhole, ended_by}

-- the position, the record before it, what texts are gathered from, and where the record last given begins and where the
-- next one would stand
pub record Standing : Type 0 where
  pub at : Lsn
  pub prev : PrevRule
  pub source : Gathering
  pub given : Option (Lsn × Lsn)

-- the record last given
abbrev pub record_given : Standing → Lsn × Lsn → Result Record RecordFault
record_given standing given = decoded standing.source.text given.0.0 standing.prev

-- the text that is shown is the record last given, whose parts stand so
abbrev pub HasGiven : Option (Lsn × Lsn) → List ℕ → PrevRule → RecordShape → Type 0
HasGiven given text prev shape = ForSome given (λ given. IsWhole text given.0.0 prev shape)

-- past the record last given; where there is none, as it was
abbrev pub past : Option (Lsn × Lsn) → Standing → Standing
past None standing = standing
past (Some given) standing = record standing { at = given.1; prev = Is given.0; given = None }

-- what is given after an answer
abbrev pub given_by : Result Next ReadFault → Option (Lsn × Lsn)
given_by (Ok (next.Record start end)) = Some (start, end)
given_by (Ok (next.AtEnd lsn why)) = None
given_by (Err fault) = None

-- after an answer the reader stands where it stood, and has the record that it gave
pub record StandsStill (old new : Standing) (answer : Result Next ReadFault) : Type 0 where
  pub at : new.at ≡ old.at
  pub prev : new.prev ≡ old.prev
  pub system : new.source.system ≡ old.source.system
  pub segsize : new.source.segsize ≡ old.source.segsize
  pub given : new.given ≡ given_by answer

-- a record ends behind the position where it is read, and no position grows without bound
abbrev pub MovesOn : Lsn → Next → Type 0
MovesOn at (next.Record start end) = (at.0 < end.0) × (end.0 ≤ 2 ^ 63 + 2 ^ 31)
MovesOn at (next.AtEnd lsn why) = Unit {0}

-- an answer without a record bears the position where it was read
abbrev pub BearsPosition : Lsn → Result Next ReadFault → Type 0
BearsPosition at (Ok (next.Record start end)) = Unit {0}
BearsPosition at (Ok (next.AtEnd lsn why)) = lsn ≡ at
BearsPosition at (Err (fault.Compressed lsn)) = lsn ≡ at
BearsPosition at (Err (fault.TooLong lsn)) = lsn ≡ at
BearsPosition at (Err fault.Log) = Unit {0}
BearsPosition at (Err fault.Memory) = Unit {0}

-- the answer is the expected one, unless the log failed or memory ran out; `found` is the record that is given
abbrev pub Answers : Result Next ReadFault → Lsn → (ℕ → Result Record RecordFault) → Result Entry NoRecord → Type 0
Answers (Ok (next.Record start end)) at found expected =
    (record_ : Record) × (found start.0 ≡ Ok record_) × (expected ≡ Ok (record { start = start.0; end = end.0; record_ = record_ }))
Answers (Ok (next.AtEnd lsn why)) at found expected = (expected ≡ Err (End why)) × (lsn ≡ at)
Answers (Err (fault.Compressed lsn)) at found expected = (expected ≡ Err Compressed) × (lsn ≡ at)
Answers (Err (fault.TooLong lsn)) at found expected = (expected ≡ Err TooLong) × (lsn ≡ at)
Answers (Err fault.Log) at found expected = Unit {0}
Answers (Err fault.Memory) at found expected = Unit {0}

-- the expected record was read, and its text is this
abbrev pub SaysGiven : Result Taken Trouble → List ℕ → PrevRule → Result Entry NoRecord → Type 0
SaysGiven (Ok taken) text prev expected = IsEntry text taken.start taken.end prev expected
SaysGiven (Err found) text prev expected = IfHalts found (λ halt. expected ≡ Err (ended_by halt))

-- the text that a reader shows: the one that was gathered, or so many bytes of those that are kept
abbrev pub shown_text : Gathering → Option (ℕ × ℕ) → List ℕ
shown_text source None = source.text
shown_text source (Some lent) = piece_of source.kept lent.0 lent.1

abbrev pub shown : Gathering → Option (ℕ × ℕ) → Gathering
shown source lent = record source { text = shown_text source lent }

-- where a record's text is lent
abbrev pub lent_at : ℕ → Option ℕ → Option (ℕ × ℕ)
lent_at start None = None
lent_at start (Some len) = Some (start, len)

-- bytes that are lent are kept
abbrev pub IsLent : Gathering → Option (ℕ × ℕ) → Type 0
IsLent source lent = ForSome lent (λ l. Covers source.kept l.0 l.1)

-- the answer that an outcome is, at this position
abbrev pub next_of : Lsn → Result Taken Trouble → Result Next ReadFault
next_of lsn (Ok taken) = Ok (next.Record (record { 0 = taken.start }) (record { 0 = taken.end }))
next_of lsn (Err (trouble.Stops (End why))) = Ok (next.AtEnd lsn why)
next_of lsn (Err (trouble.Stops Compressed)) = Err (fault.Compressed lsn)
next_of lsn (Err (trouble.Stops TooLong)) = Err (fault.TooLong lsn)
next_of lsn (Err (trouble.GivesUp place)) = Ok (next.AtEnd lsn Layout)
next_of lsn (Err trouble.Log) = Err fault.Log
next_of lsn (Err trouble.Memory) = Err fault.Memory
