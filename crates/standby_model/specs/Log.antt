-- The log from a position on, as it is told: records in typed form, each where the one before ended, and why none
-- stands behind them. It says nothing of blocks, nor of what a standby does with the records.
-- Sources: xlogreader.c (XLogReadRecord), xlogrecovery.c (ReadRecord, PerformWalRecovery).
use Rattle.std.specs.Prelude.{◌≡◌, ℕ, List, [], ◌∷◌, Result, Ok, Err}
use Rattle.pg_types.specs.declared.names.Locator.{Locator}
use Rattle.wal_record.specs.declared.types.PrevRule.{PrevRule}
use Rattle.wal_record.specs.declared.types.PrevRule.TheVariants.{Below, Is}
use Rattle.wal_reader.specs.declared.types.EndWhy.{EndWhy}
use Rattle.wal_reader.specs.declared.types.NoRecord.{NoRecord}
use Rattle.wal_reader.specs.declared.types.NoRecord.TheVariants as reader
use Rattle.wal_reader.specs.Step.{Entry, step}
use Rattle.wal_reader.specs.Told.{Told}
use Rattle.typed_records.specs.declared.types.Rec.{Rec}
use Rattle.typed_records.specs.declared.types.What.{What}
use Rattle.typed_records.specs.declared.types.BodyFault.{BodyFault}
use Rattle.typed_records.specs.declared.types.BodyFault.TheVariants as body
use Rattle.wal_bodies.specs.Typed.{typed}
use Rattle.wal_bodies.specs.Ends.{end_of}

-- what is described to a standby: its database, and the files of the tables in it
pub record Described : Type 0 where
  pub database : ℕ
  pub files : List Locator

-- why a record is refused, whatever blocks it finds: it has a compressed page image, it is longer than 64 MiB, its body
-- is shorter than its kind needs, or it is of a kind that is not supported
pub data RecordRefusal : Type 0 where
  Compressed : RecordRefusal
  TooLong : RecordRefusal
  Length : RecordRefusal
  Unsupported : (what : What) → RecordRefusal

-- why the log goes no further: it ends by one of the reader's rules, or the next record is refused
pub data Stop : Type 0 where
  Ended : (why : EndWhy) → Stop
  Refused : (what : RecordRefusal) → Stop

abbrev pub stop_by : NoRecord → Stop
stop_by (reader.End why) = Ended why
stop_by reader.Compressed = Refused Compressed
stop_by reader.TooLong = Refused TooLong

abbrev pub refusal_by : BodyFault → RecordRefusal
refusal_by body.Length = Length
refusal_by (body.Unsupported what) = Unsupported what

abbrev pub unless_refused : Result Rec BodyFault → Result Rec Stop
unless_refused (Ok rec) = Ok rec
unless_refused (Err fault) = Err (Refused (refusal_by fault))

-- the typed form of a record that was read
abbrev pub typed_at : Described → Entry → Result Rec BodyFault
typed_at described entry =
    typed entry.record_ (record { 0 = entry.start }) (record { 0 = entry.end }) described.database described.files

abbrev pub typed_of : Described → Result Entry NoRecord → Result Rec Stop
typed_of described (Ok entry) = unless_refused (typed_at described entry)
typed_of described (Err why) = Err (stop_by why)

-- the record at a position, after the one that the rule names; or why there is none
abbrev pub record_at : Told → Described → ℕ → PrevRule → Result Rec Stop
record_at told described at prev = typed_of described (step told at prev)

-- the link that the next record has to have: to the newest record, and the first one below its own position
abbrev pub link_after : List Rec → PrevRule
link_after [] = Below
link_after (rec ∷ older) = Is rec.start

-- the record that follows, or why none does
abbrev pub next_of : Told → Described → ℕ → List Rec → Result Rec Stop
next_of told described from log = record_at told described (end_of from log) (link_after log)

-- each record is the one that is told where the one before ended
abbrev pub Stands : Told → Described → ℕ → List Rec → Type 0
Stands told described from [] = Unit {0}
Stands told described from (rec ∷ older) = (next_of told described from older ≡ Ok rec) × Stands told described from older

-- the whole log, and why it goes no further
pub record IsLog (told : Told) (described : Described) (from : ℕ) (log : List Rec) (stop : Stop) : Type 0 where
  pub stands : Stands told described from log
  pub stops : next_of told described from log ≡ Err stop
