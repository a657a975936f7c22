-- That the numbers of a record fit is no rule of the log: it follows from reading bytes.
use Rattle.std.specs.Prelude.{◌≡◌, ℕ, List, Ok}
use Rattle.pg_types.specs.declared.names.Locator.{Locator}
use Rattle.pg_types.specs.declared.names.Lsn.{Lsn}
use Rattle.wal_record.specs.declared.types.PrevRule.{PrevRule}
use Rattle.wal_record.specs.Decoded.{decoded}
use Rattle.wal_record.specs.OfBytes.{IsOfBytes}
use Rattle.wal_record.specs.Record.{Record}
use Rattle.pg_types.specs.Bytes.{AreBytes}
use Rattle.wal_reader.specs.Step.{Entry, step}
use Rattle.wal_reader.specs.Told.{Told}
use Rattle.typed_records.specs.declared.types.Rec.{Rec}
use Rattle.wal_bodies.specs.Laws.{IsTyped}
use Rattle.record_numbers.specs.Bytes.{TellsBytes}
use Rattle.record_numbers.specs.Fits.{RecordFits}

-- the typed form of a record of bytes fits
abbrev pub TypedFits : Type 0
TypedFits =
    (source : Record) (start end : Lsn) (database : ℕ) (known : List Locator) (rec : Rec)
    → IsOfBytes source → IsTyped source start end database known rec → RecordFits rec

-- so does that of a record that is read of bytes
abbrev pub NumbersFit : Type 0
NumbersFit =
    (bytes : List ℕ) (at : ℕ) (rule : PrevRule) (source : Record)
    (start end : Lsn) (database : ℕ) (known : List Locator) (rec : Rec)
    → AreBytes bytes → decoded bytes at rule ≡ Ok source → IsTyped source start end database known rec → RecordFits rec

-- and that of a record that a reader finds in a log of which bytes are told
abbrev pub ToldNumbersFit : Type 0
ToldNumbersFit =
    (told : Told) (at : ℕ) (rule : PrevRule) (entry : Entry)
    (start end : Lsn) (database : ℕ) (known : List Locator) (rec : Rec)
    → TellsBytes told → step told at rule ≡ Ok entry → IsTyped entry.record_ start end database known rec → RecordFits rec
