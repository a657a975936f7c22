-- What the steps of a replay say.
use Rattle.std.specs.Prelude.{◌≡◌, ◌⊎◌, List, Option, Some, None, Result, Ok, Err}
use Rattle.pg_types.specs.declared.names.Locator.{Locator}
use Rattle.pg_types.specs.declared.names.Lsn.{Lsn}
use Rattle.wal_record.specs.Decoded.{decoded}
use Rattle.wal_record.specs.Record.{Record}
use Rattle.wal_reader.specs.declared.types.ReadFault.{ReadFault}
use Rattle.wal_reader.specs.declared.types.ReadFault.TheVariants as fault
use Rattle.wal_reader.specs.Standing.{Standing}
use Rattle.typed_records.specs.declared.types.Rec.{Rec}
use Rattle.typed_records.specs.declared.types.BodyFault.{BodyFault}
use Rattle.typed_records.specs.declared.types.BodyFault.TheVariants as body
use Rattle.heap_redo.specs.declared.fault.RedoFault.{RedoFault}
use Rattle.page_store.specs.Seen.{View}
use Rattle.heap_redo.specs.Redone.{RanOut, redone_record}
use Rattle.xact_redo.specs.State.{state_after}
use Rattle.table_schema.specs.Description.{locators}
use Rattle.standby_core.specs.declared.types.Refusal.{Refusal}
use Rattle.standby_core.specs.declared.types.Refusal.TheVariants.{Compressed, TooLong, Length, Unsupported}
use Rattle.standby_core.specs.declared.types.Replayed.{Replayed}
use Rattle.standby_core.specs.declared.types.Replayed.TheVariants.{Applied, AtEnd, Refused}
use Rattle.standby_core.specs.declared.types.NodeFault.{NodeFault}
use Rattle.standby_core.specs.declared.types.NodeFault.TheVariants.{Archive, Memory}
use Rattle.standby_model.specs.Log.{Stop, typed_of}
use Rattle.standby_core.specs.Standby.{Standby, described_to}
use Rattle.recovery_conflict.specs.Held.{locks_after}
use Rattle.standby_core.specs.Horizon.{parents_kept}
use Rattle.standby_core.specs.Conflicts.{cancelled_by, gone_after, newly_cancelled}
use Rattle.standby_core.specs.declared.types.Passed.{Passed}
use Rattle.standby_core.specs.declared.types.Stopped.{Stopped}
use Rattle.standby_core.specs.declared.types.Stopped.TheVariants as stopped
use Rattle.standby_core.specs.Replay.{IsRefusedAs, MayBeRedone, Replays, awaited_after, redo_refusal}

-- the refusal that a body's fault is
abbrev pub body_refusal : BodyFault → Refusal
body_refusal body.Length = Length
body_refusal (body.Unsupported what) = Unsupported what

-- why a record stopped, by its refusal; where there is none, memory ran out
abbrev pub stopped_by : Option Refusal → Stopped
stopped_by (Some what) = stopped.Refused what
stopped_by None = stopped.Memory

-- the answer where the reader has none
abbrev pub unread : ReadFault → Result Replayed NodeFault
unread fault.Log = Err Archive
unread (fault.Compressed lsn) = Ok (Refused lsn Compressed)
unread (fault.TooLong lsn) = Ok (Refused lsn TooLong)
unread fault.Memory = Err Memory

-- the record from `start` to `end` is the one that the reader gave last
abbrev pub Gives : Standing → Lsn → Lsn → Type 0
Gives reader start end = reader.given ≡ Some (start, end)

-- it is this record
abbrev pub IsGiven : Standing → Lsn → Record → Type 0
IsGiven reader start found = decoded reader.source.text start.0 reader.prev ≡ Ok found

-- what a record in typed form does to the blocks, and why it stops
abbrev pub TypedRedone : Rec → List Locator → Result (Unit {0}) Stopped → View → View → Type 0
TypedRedone rec known (Ok done) old new = redone_record rec known old ≡ (new, Ok tt)
TypedRedone rec known (Err (stopped.Refused what)) old new =
    (fault : RedoFault) × (redone_record rec known old ≡ (new, Err fault)) × (redo_refusal fault ≡ Some what)
TypedRedone rec known (Err stopped.Memory) old new = (new ≡ old) ⊎ RanOut rec known old new

-- a record has changed the blocks, the state of transactions and the locks, and cancelled so many scans; the parents that no
-- snapshot may ask for are forgotten; and this end of a backup is awaited then
pub record IsRedone (rec : Rec) (passed : Passed) (old new : Standby) : Type 0 where
  pub blocks : redone_record rec (locators old.tables) old.blocks ≡ (new.blocks, Ok tt)
  pub awaited_is : passed.awaited ≡ awaited_after rec.kind old.awaited
  pub cancelled_is : passed.cancelled ≡ newly_cancelled rec old.tables old.scans
  pub others :
      new ≡ record old {
        blocks = new.blocks;
        transactions = parents_kept rec old.scans (state_after rec old.transactions);
        scans = cancelled_by rec old.tables old.scans;
        locks = locks_after rec old.locks;
        gone = gone_after rec (locators old.tables) old.gone;
      }

-- what a record that was found does, and what is awaited then; where it stops all but the blocks is as before
abbrev pub Redone : Lsn → Lsn → Result Passed Stopped → Standby → Standby → Result Rec Stop → Type 0
Redone start end (Ok passed) old new found =
    (rec : Rec) × (found ≡ Ok rec) × IsRedone rec passed old new × (rec.start ≡ start) × (rec.end ≡ end)
Redone start end (Err (stopped.Refused what)) old new found = IsRefusedAs old new found what × (new ≡ record old { blocks = new.blocks })
Redone start end (Err stopped.Memory) old new found = MayBeRedone old new found × (new ≡ record old { blocks = new.blocks })

-- what the record that was given does so
pub record GivenRedone (reader : Standing) (start end : Lsn) (result : Result Passed Stopped) (old new : Standby) : Type 0 where
  pub found : Record
  pub given : IsGiven reader start found
  pub redone :
      Redone start end result old new (typed_of (described_to old) (Ok (record { start = start.0; end = end.0; record_ = found })))

-- the record that was given is replayed
pub record GivenReplays (reader : Standing) (start end : Lsn) (result : Result Replayed NodeFault) (old new : Standby) : Type 0 where
  pub found : Record
  pub given : IsGiven reader start found
  pub replays :
      Replays result old new (typed_of (described_to old) (Ok (record { start = start.0; end = end.0; record_ = found })))

-- where a record was applied the node stands at its end
abbrev pub EndsAt : Result Replayed NodeFault → Lsn → Standby → Type 0
EndsAt (Ok (Applied start at cancelled)) end new = new.at ≡ end
EndsAt (Ok (AtEnd lsn why)) end new = Unit {0}
EndsAt (Ok (Refused lsn what)) end new = Unit {0}
EndsAt (Err fault) end new = Unit {0}
