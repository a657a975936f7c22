-- What replaying one record does to a node, and what is answered (xlogrecovery.c, PerformWalRecovery and
-- ApplyWalRecord; xlog_redo of XLOG_BACKUP_END).
use Rattle.std.specs.Prelude.{◌≡◌, ◌⊎◌, ℕ, ◌+◌, ◌^◌, ◌<◌, ◌≤◌, ◌==◌, Bool, false, Option, Some, None, Result, Ok, Err, if◌then◌else◌}
use Rattle.pg_types.specs.declared.names.Lsn.{Lsn}
use Rattle.wal_record.specs.declared.types.PrevRule.TheVariants.{Is}
use Rattle.wal_reader.specs.declared.types.NoRecord.{NoRecord}
use Rattle.wal_reader.specs.Step.{Entry}
use Rattle.typed_records.specs.declared.types.Rec.{Rec}
use Rattle.typed_records.specs.declared.types.RecKind.{RecKind}
use Rattle.typed_records.specs.declared.types.RecKind.TheVariants.{BackupEnd}
use Rattle.heap_redo.specs.declared.fault.RedoFault.{RedoFault}
use Rattle.heap_redo.specs.declared.fault.RedoFault.TheVariants as redo
use Rattle.heap_redo.specs.Redone.{RanOut, redone_record}
use Rattle.table_schema.specs.Description.{locators}
use Rattle.xact_redo.specs.State.{state_after}
use Rattle.standby_model.specs.Log as log
use Rattle.standby_model.specs.Log.{Stop, typed_of}
use Rattle.standby_core.specs.declared.types.Refusal.{Refusal}
use Rattle.standby_core.specs.declared.types.Refusal.TheVariants.{Compressed, TooLong, Length, Unsupported, NoPage, NoTuple, PageFull, BadPage}
use Rattle.standby_core.specs.declared.types.Replayed.{Replayed}
use Rattle.standby_core.specs.declared.types.Replayed.TheVariants.{Applied, AtEnd, Refused}
use Rattle.standby_core.specs.declared.types.NodeFault.{NodeFault}
use Rattle.standby_core.specs.declared.types.NodeFault.TheVariants.{Archive, Memory}
use Rattle.recovery_conflict.specs.Held.{locks_after}
use Rattle.standby_core.specs.Horizon.{parents_kept}
use Rattle.standby_core.specs.Conflicts.{cancelled_by, gone_after, newly_cancelled}
use Rattle.standby_core.specs.Standby.{Standby, described_to}

-- the end of the backup that began at this position
abbrev pub ends_backup : Lsn → RecKind → Bool
ends_backup start (BackupEnd begun) = begun.0 == start.0
ends_backup start _ = false

-- whose end is awaited after a record
abbrev pub awaited_after : RecKind → Option Lsn → Option Lsn
awaited_after kind None = None
awaited_after kind (Some start) = if ends_backup start kind then None else Some start

-- the record is applied to the blocks, to the state of transactions and to the locks, the parents that no snapshot may ask
-- for are forgotten, the scans that it conflicts with are cancelled, and the node stands at its end
pub record IsApplied (rec : Rec) (old new : Standby) : Type 0 where
  pub blocks : redone_record rec (locators old.tables) old.blocks ≡ (new.blocks, Ok tt)
  pub others :
      new ≡ record old {
        at = rec.end;
        prev = Is rec.start;
        awaited = awaited_after rec.kind old.awaited;
        blocks = new.blocks;
        transactions = parents_kept rec old.scans (state_after rec old.transactions);
        kept = new.kept;
        scans = cancelled_by rec old.tables old.scans;
        locks = locks_after rec old.locks;
        gone = gone_after rec (locators old.tables) old.gone;
      }

-- a refusal of a record by its form or its body, as the node's own
abbrev pub refusal_of : log.RecordRefusal → Refusal
refusal_of log.Compressed = Compressed
refusal_of log.TooLong = TooLong
refusal_of log.Length = Length
refusal_of (log.Unsupported what) = Unsupported what

-- the refusal that a fault of redo is; none for want of memory
abbrev pub redo_refusal : RedoFault → Option Refusal
redo_refusal (redo.PageMissing place) = Some (NoPage place.block)
redo_refusal (redo.NoTuple place) = Some (NoTuple place)
redo_refusal (redo.PageFull place) = Some (PageFull place)
redo_refusal (redo.BadPage place) = Some (BadPage place.block)
redo_refusal redo.Memory = None

-- why the record at the node's position is refused: by its form or its body, or by the blocks that it changes, of which
-- those before the refused one are then as after the record
pub data IsRefusedAs (old new : Standby) (found : Result Rec Stop) (what : Refusal) : Type 0 where
  by_record :
      (why : log.RecordRefusal) → found ≡ Err (log.Refused why) → refusal_of why ≡ what → new.blocks ≡ old.blocks
      → IsRefusedAs old new found what
  by_blocks :
      (rec : Rec) (fault : RedoFault) → found ≡ Ok rec → redone_record rec (locators old.tables) old.blocks ≡ (new.blocks, Err fault)
      → redo_refusal fault ≡ Some what → IsRefusedAs old new found what

-- memory ran out before the blocks were changed, or after some of the record's blocks
abbrev pub MayBeRedone : Standby → Standby → Result Rec Stop → Type 0
MayBeRedone old new found =
    (new.blocks ≡ old.blocks) ⊎ ((rec : Rec) × (found ≡ Ok rec) × RanOut rec (locators old.tables) old.blocks new.blocks)

-- the answer of one replay, by what stands at the node's position
abbrev pub Replays : Result Replayed NodeFault → Standby → Standby → Result Rec Stop → Type 0
Replays (Ok (Applied start at cancelled)) old new found =
    (rec : Rec) × (found ≡ Ok rec) × IsApplied rec old new × (rec.start ≡ start) × (rec.end ≡ at)
    × (cancelled ≡ newly_cancelled rec old.tables old.scans)
Replays (Ok (AtEnd lsn why)) old new found = (found ≡ Err (log.Ended why)) × (lsn ≡ old.at) × (new.blocks ≡ old.blocks)
Replays (Ok (Refused lsn what)) old new found = IsRefusedAs old new found what × (lsn ≡ old.at)
Replays (Err Archive) old new found = new.blocks ≡ old.blocks
Replays (Err Memory) old new found = MayBeRedone old new found

-- where nothing is told of what stands at the node's position, the answer is that of something that may stand there
abbrev pub ReplaysSome : Result Replayed NodeFault → Standby → Standby → Type 0
ReplaysSome result old new = (found : Result Entry NoRecord) × Replays result old new (typed_of (described_to old) found)

-- where no record was applied, all but the blocks, and what is kept of the log, is as before
abbrev pub StaysUnlessApplied : Result Replayed NodeFault → Standby → Standby → Type 0
StaysUnlessApplied (Ok (Applied start at cancelled)) old new = Unit {0}
StaysUnlessApplied (Ok (AtEnd lsn why)) old new = new ≡ record old { blocks = new.blocks; kept = new.kept }
StaysUnlessApplied (Ok (Refused lsn what)) old new = new ≡ record old { blocks = new.blocks; kept = new.kept }
StaysUnlessApplied (Err fault) old new = new ≡ record old { blocks = new.blocks; kept = new.kept }

-- where a record was applied the node stands behind the position where it stood, and no position grows without bound
abbrev pub MovesOn : Result Replayed NodeFault → ℕ → ℕ → Type 0
MovesOn (Ok (Applied start at cancelled)) old new = (old < new) × (new ≤ 2 ^ 63 + 2 ^ 31)
MovesOn (Ok (AtEnd lsn why)) old new = Unit {0}
MovesOn (Ok (Refused lsn what)) old new = Unit {0}
MovesOn (Err fault) old new = Unit {0}
