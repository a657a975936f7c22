-- What one step of the abstract standby may change, in one form for all events.
use Rattle.std.proofs.Common.{◌≡◌, ℕ, Bool, true, false, not, ◌&&◌, [], Option, Some, None, Result, Ok, Err, refl, sym, subst, ap, if◌then◌else◌}
use Rattle.std.specs.Prelude.{is_some}
use Rattle.typed_records.specs.declared.types.Rec.{Rec}
use Rattle.recovery_conflict.specs.declared.locks.Cause.{Cause}
use Rattle.row_model.specs.Locks.{HeldLock, locks}
use Rattle.seq_scan.specs.BlockRows.{BlockRows}
use Rattle.standby_model.specs.Log as log
use Rattle.standby_model.specs.Log.{Stop, next_of}
use Rattle.standby_core.specs.Replay.{refusal_of}
use Rattle.standby_core.specs.Scans.{is_whole}
use Rattle.standby_core.specs.Standby.{described_in}
use Rattle.table_schema.specs.Tables.{file_of, number_named, table_with}
use Rattle.session_model.specs.Events.{Event, AsksStatus, ReplayOne, Open, Next, Close, Reply, Stands, Applied, AtEnd, Refused, Opened, NoTable, TooMany, NotAdmitted, Page, Closed, NoScan, Gone, Locked, Cancelled}
use Rattle.legal_session.specs.AbstractStandby.{AbstractScan, AbstractStandby, GivesRows, ReadsScan, ReadsUnlessCancelled, Step, World, admits, after_block, after_close, after_record, gone_at, is_crowded, last_lock, log_origin, opened, opened_unless, position_of, replayed, scan_in, status_in, with_scan}
use Rattle.legal_session.specs.GivenRows.{said_by}

-- a reply says nothing of any scan
abbrev pub SaysNothing : Reply → Type 0
SaysNothing reply = (id : ℕ) → said_by id reply ≡ []

-- a scan of a table is opened, which is neither dropped nor locked
pub record OpensScan (w : World) (xmin : ℕ) (s : AbstractStandby) (number : Option ℕ) (reply : Reply) (now : AbstractStandby) : Type 0 where
  pub table : ℕ
  pub named : number ≡ Some table
  pub admitted : admits s ≡ true
  pub there : gone_at (file_of w.tables table) s.life ≡ None
  pub says : reply ≡ Opened s.next_id (position_of s)
  pub leads : now ≡ with_scan table xmin s

-- or none is
pub record OpensNone (s : AbstractStandby) (reply : Reply) (now : AbstractStandby) : Type 0 where
  pub quiet : SaysNothing reply
  pub not_opened : (id at : ℕ) → reply ≡ Opened id at → ⊥
  pub leads : now ≡ s

pub data Opening (w : World) (xmin : ℕ) (s : AbstractStandby) (number : Option ℕ) (reply : Reply) (now : AbstractStandby) : Type 0 where
  Admits : OpensScan w xmin s number reply now → Opening w xmin s number reply now
  Declines : OpensNone s reply now → Opening w xmin s number reply now

opens_none :
    (w : World) (xmin : ℕ) (s : AbstractStandby) (number : Option ℕ) (reply other : Reply) (now : AbstractStandby) → SaysNothing other
    → ((id at : ℕ) → other ≡ Opened id at → ⊥) → ◌≡◌ {A = Reply × AbstractStandby} (reply, now) (other, s)
    → Opening w xmin s number reply now
opens_none w xmin s number reply other now quiet unlike e =
    Declines (subst (λ (r : Reply). OpensNone s r now) (sym (ap (λ (p : Reply × AbstractStandby). p.0) e)) (record {
      quiet = quiet;
      not_opened = unlike;
      leads = ap (λ (p : Reply × AbstractStandby). p.1) e;
    }))

opening_by :
    (w : World) (xmin : ℕ) (s : AbstractStandby) (table : ℕ) (reply : Reply) (now : AbstractStandby) (crowded admitted : Bool)
    (since : Option ℕ) (held : Option HeldLock) → admits s ≡ admitted → gone_at (file_of w.tables table) s.life ≡ since
    → ◌≡◌ {A = Reply × AbstractStandby} (reply, now)
    (if crowded then (TooMany, s)
    else if not admitted then (NotAdmitted (status_in s), s) else opened_unless since held table xmin s)
    → Opening w xmin s (Some table) reply now
opening_by w xmin s table reply now true admitted since held a g e =
    opens_none w xmin s (Some table) reply TooMany now (λ id. refl) (λ id at f. cc) e
opening_by w xmin s table reply now false false since held a g e =
    opens_none w xmin s (Some table) reply (NotAdmitted (status_in s)) now (λ id. refl) (λ id at f. cc) e
opening_by w xmin s table reply now false true (Some at) held a g e =
    opens_none w xmin s (Some table) reply (Gone at) now (λ id. refl) (λ id at f. cc) e
opening_by w xmin s table reply now false true None (Some held) a g e =
    opens_none w xmin s (Some table) reply (Locked held.since held.xid) now (λ id. refl) (λ id at f. cc) e
opening_by w xmin s table reply now false true None None a g e = Admits (record {
  table = table;
  named = refl;
  admitted = a;
  there = g;
  says = ap (λ (p : Reply × AbstractStandby). p.0) e;
  leads = ap (λ (p : Reply × AbstractStandby). p.1) e;
})

pub opening_of :
    (w : World) (xmin : ℕ) (s : AbstractStandby) (number : Option ℕ) (reply : Reply) (now : AbstractStandby)
    → ◌≡◌ {A = Reply × AbstractStandby} (reply, now) (opened w xmin s number) → Opening w xmin s number reply now
opening_of w xmin s None reply now e =
    opens_none w xmin s None reply NoTable now (λ id. refl) (λ id at f. cc) e
opening_of w xmin s (Some table) reply now e =
    opening_by w xmin s table reply now (is_crowded s) (admits s) (gone_at (file_of w.tables table) s.life)
    (last_lock (locks (log_origin w) (file_of w.tables table) s.life)) refl refl e

-- what a step changes: nothing; a record more is replayed; a scan more is open; a scan is given a page, is cancelled, or is
-- taken away
pub data Change (w : World) (s : AbstractStandby) (reply : Reply) (now : AbstractStandby) : Type 0 where
  Same : SaysNothing reply → now ≡ s → Change w s reply now
  More :
      (rec : Rec) → SaysNothing reply → next_of w.told (described_in w.tables) s.start s.life ≡ Ok rec → now ≡ after_record w rec s
      → Change w s reply now
  Adds : (table xmin : ℕ) → SaysNothing reply → now ≡ with_scan table xmin s → Change w s reply now
  Gives :
      (id : ℕ) (scan : AbstractScan) (page : BlockRows) (more : Bool) → scan_in id s.scans ≡ Some scan → scan.cause ≡ None
      → GivesRows w scan page more → reply ≡ Page id (table_with w.tables scan.table) scan.given more page
      → now ≡ after_block id (more && is_whole page.end) s → Change w s reply now
  Cancels :
      (id : ℕ) (scan : AbstractScan) (cause : Cause) → scan_in id s.scans ≡ Some scan → scan.cause ≡ Some cause
      → reply ≡ Cancelled id cause → now ≡ after_close id s → Change w s reply now
  Shuts :
      (id : ℕ) → reply ≡ (if is_some (scan_in id s.scans) then Closed id else NoScan) → now ≡ after_close id s → Change w s reply now

-- a reply that is like a quiet one
quiet_by : (reply other : Reply) → SaysNothing other → reply ≡ other → SaysNothing reply
quiet_by reply other quiet e = subst (λ (r : Reply). SaysNothing r) (sym e) quiet

change_replay :
    (w : World) (s : AbstractStandby) (reply : Reply) (now : AbstractStandby) (next : Result Rec Stop)
    → next_of w.told (described_in w.tables) s.start s.life ≡ next
    → ◌≡◌ {A = Reply × AbstractStandby} (reply, now) (replayed w s next) → Change w s reply now
change_replay w s reply now (Ok rec) next e =
    More rec
    (quiet_by reply (Applied rec.end.0) (λ id. refl)
    (ap (λ (p : Reply × AbstractStandby). p.0) e))
    next
    (ap (λ (p : Reply × AbstractStandby). p.1) e)
change_replay w s reply now (Err (log.Ended why)) next e =
    Same
    (quiet_by reply (AtEnd (position_of s) why) (λ id. refl)
    (ap (λ (p : Reply × AbstractStandby). p.0) e))
    (ap (λ (p : Reply × AbstractStandby). p.1) e)
change_replay w s reply now (Err (log.Refused what)) next e =
    Same
    (quiet_by reply (Refused (position_of s) (refusal_of what)) (λ id. refl)
    (ap (λ (p : Reply × AbstractStandby). p.0) e))
    (ap (λ (p : Reply × AbstractStandby). p.1) e)

change_open :
    (w : World) (xmin : ℕ) (s : AbstractStandby) (number : Option ℕ) (reply : Reply) (now : AbstractStandby)
    → Opening w xmin s number reply now → Change w s reply now
change_open w xmin s number reply now (Admits opens) =
    Adds opens.table xmin
    (quiet_by reply (Opened s.next_id (position_of s)) (λ id. refl) opens.says)
    opens.leads
change_open w xmin s number reply now (Declines none) = Same none.quiet none.leads

change_read :
    (w : World) (s : AbstractStandby) (id : ℕ) (scan : AbstractScan) (reply : Reply) (now : AbstractStandby) (cause : Option Cause)
    → scan_in id s.scans ≡ Some scan → scan.cause ≡ cause → ReadsUnlessCancelled w id scan cause s reply now → Change w s reply now
change_read w s id scan reply now (Some cause) e c (says, leads) = Cancels id scan cause e c says leads
change_read w s id scan reply now None e c (page, more, gives, says, leads) = Gives id scan page more e c gives says leads

change_next :
    (w : World) (s : AbstractStandby) (id : ℕ) (reply : Reply) (now : AbstractStandby) (scan : Option AbstractScan)
    → scan_in id s.scans ≡ scan → ReadsScan w id scan s reply now → Change w s reply now
change_next w s id reply now None e (says, leads) =
    Same (quiet_by reply NoScan (λ id. refl) says) leads
change_next w s id reply now (Some scan) e step = change_read w s id scan reply now scan.cause e refl step

pub change_of : (w : World) (s : AbstractStandby) (event : Event) (reply : Reply) (now : AbstractStandby) → Step w event s reply now → Change w s reply now
change_of w s AsksStatus reply now (says, leads) =
    Same (quiet_by reply (Stands (status_in s)) (λ id. refl) says) leads
change_of w s ReplayOne reply now step =
    change_replay w s reply now (next_of w.told (described_in w.tables) s.start s.life) refl step
change_of w s (Open name) reply now (xmin, least, step) =
    change_open w xmin s (number_named w.tables name) reply now (opening_of w xmin s (number_named w.tables name) reply now step)
change_of w s (Next id) reply now step = change_next w s id reply now (scan_in id s.scans) refl step
change_of w s (Close id) reply now (says, leads) = Shuts id says leads
