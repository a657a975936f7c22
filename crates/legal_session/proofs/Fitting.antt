-- The numbers of each record of a log that is told in bytes fit.
use Rattle.std.proofs.Common.{◌≡◌, ℕ, ◌<◌, List, [], ◌∷◌, All, Option, Some, IfSome, Result, Ok, Err, refl, subst}
use Rattle.std.proofs.lemmas.List.Elements.{All-cons, All-nil}
use Rattle.outside.specs.Archive.{HaveBytes}
use Rattle.wal_archive.specs.ArchiveLog.{archived_byte}
use Rattle.wal_archive.specs.Bytes.{archived_byte_below}
use Rattle.wal_record.specs.declared.types.PrevRule.{PrevRule}
use Rattle.wal_reader.specs.declared.types.NoRecord.{NoRecord}
use Rattle.wal_reader.specs.Step.{Entry, step}
use Rattle.wal_reader.specs.Told.{Told}
use Rattle.typed_records.specs.declared.types.BodyFault.{BodyFault}
use Rattle.typed_records.specs.declared.types.Rec.{Rec}
use Rattle.record_numbers.specs.Bytes.{TellsBytes}
use Rattle.record_numbers.specs.Fits.{RecordFits}
use Rattle.record_numbers.specs.Laws.{ToldNumbersFit}
use Rattle.standby_model.specs.Archived.{segment_size, told_by}
use Rattle.wal_bodies.specs.Ends.{end_of}
use Rattle.standby_model.specs.Log.{Described, Stands, link_after, typed_at, typed_of, unless_refused}

typed_ok : (typed : Result Rec BodyFault) (rec : Rec) → unless_refused typed ≡ Ok rec → typed ≡ Ok rec
typed_ok (Ok found) rec e = cc
typed_ok (Err fault) rec e = cc

record_fits :
    ToldNumbersFit → (told : Told) (described : Described) (at : ℕ) (prev : PrevRule) (rec : Rec) → TellsBytes told
    → (found : Result Entry NoRecord) → step told at prev ≡ found → typed_of described found ≡ Ok rec → RecordFits rec
record_fits fits told described at prev rec tells (Ok entry) e t =
    fits told at prev entry (record { 0 = entry.start }) (record { 0 = entry.end }) described.database described.files rec tells e
    (typed_ok (typed_at described entry) rec t)
record_fits fits told described at prev rec tells (Err why) e t = cc

pub all_fit :
    ToldNumbersFit → (told : Told) (described : Described) (from : ℕ) (log : List Rec) → TellsBytes told
    → Stands told described from log → All RecordFits log
all_fit fits told described from [] tells stands = All-nil RecordFits
all_fit fits told described from (rec ∷ older) tells (next, stands) =
    All-cons RecordFits rec older
    (record_fits fits told described (end_of from older) (link_after older) rec tells
    (step told (end_of from older) (link_after older)) refl next)
    (all_fit fits told described from older tells stands)

byte_below : (found : Option ℕ) (byte : ℕ) → IfSome found (λ (b : ℕ). b < 256) → found ≡ Some byte → byte < 256
byte_below found byte low e = subst (λ (o : Option ℕ). IfSome o (λ (b : ℕ). b < 256)) e low

-- files of bytes tell bytes
pub files_tell_bytes : (files : List ℕ → Option (List ℕ)) → HaveBytes (Some files) → TellsBytes (told_by files)
files_tell_bytes files have at byte e =
    byte_below (archived_byte files segment_size at) byte (archived_byte_below files segment_size at have) e
