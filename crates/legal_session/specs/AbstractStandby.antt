-- A standby as its log has it: which records it replayed and which scans are open, and what each event does and replies, by
-- the log and the definitions of rows, blocks and running transactions alone.
-- Sources: xlogrecovery.c (PerformWalRecovery, CheckRecoveryConsistency), procarray.c (GetSnapshotData), heapam.c
-- (heap_getnextslot).
use Rattle.std.specs.Prelude.{◌≡◌, ℕ, ◌+◌, ◌^◌, ◌==◌, Bool, true, false, not, ◌&&◌, ◌||◌, nat_lt, nat_le, List, [], ◌∷◌, ◌++◌, length, map, filter, Option, None, Some, is_some, Result, Ok, Err, if◌then◌else◌}
use Rattle.pg_types.specs.declared.names.Lsn.{Lsn}
use Rattle.pg_types.specs.declared.names.Locator.{Locator}
use Rattle.wal_reader.specs.Told.{Told}
use Rattle.typed_records.specs.declared.types.Rec.{Rec}
use Rattle.wal_bodies.specs.Ends.{end_of}
use Rattle.known_assigned.specs.declared.state.State.{State}
use Rattle.table_schema.specs.Description.{Description, locators}
use Rattle.heap_redo.specs.Redone.{table_of}
use Rattle.table_schema.specs.Tables.{columns_of, file_of, number_named, table_with}
use Rattle.seq_scan.specs.BlockRows.{BlockRows}
use Rattle.transaction_model.specs.Transactions.{IsXmin, state_of}
use Rattle.xact_redo.specs.TransactionsOf.{transactions_of}
use Rattle.row_model.specs.Versions.{Version}
use Rattle.row_model.specs.RowSteps.{block_count, versions}
use Rattle.row_model.specs.Rows.{IsRows}
use Rattle.row_model.specs.Locks.{HeldLock, drops, locks}
use Rattle.row_model.specs.Origins.{LogOrigin, committed_in, empty_table}
use Rattle.row_model.specs.Multixacts.{multixacts}
use Rattle.row_model.specs.LegalRows.{LegalLog}
use Rattle.row_pages.specs.Pages.{is_in_block, rows_of_versions}
use Rattle.recovery_conflict.specs.declared.locks.Cause.{Cause}
use Rattle.recovery_conflict.specs.Causes.{cause_of}
use Rattle.standby_model.specs.Log as log
use Rattle.standby_model.specs.Log.{Stands, Stop, next_of}
use Rattle.standby_core.specs.Conflicts.{first_cause, oid_of}
use Rattle.standby_core.specs.Standby.{described_in}
use Rattle.standby_core.specs.Replay.{awaited_after, refusal_of}
use Rattle.standby_core.specs.Scans.{is_ready, is_whole, most_scans}
use Rattle.session_model.specs.Events.{Event, AsksStatus, ReplayOne, Open, Next, Close, Reply, Status, Stands as StandsSo, Applied, AtEnd, Refused, Opened, NoTable, TooMany, NotAdmitted, Page, Closed, NoScan, Gone, Locked, Cancelled}

-- what a standby lives in: the tables that are described to it, the log that is told, and what leads from a
-- subtransaction to its top transaction
pub record World : Type 0 where
  pub tables : Description
  pub told : Told
  pub top : ℕ → ℕ

-- the oid of the described table that has this file; 0 where there is none
abbrev pub oid_with : Description → Option ℕ → ℕ
oid_with tables None = 0
oid_with tables (Some number) = oid_of tables number

abbrev pub oid_at : Description → Locator → ℕ
oid_at tables file = oid_with tables (table_of (locators tables) file)

-- where its log begins the tables are empty and no transaction has a status
abbrev pub log_origin : World → LogOrigin
log_origin w = record {
  transactions = record { at = record { is_committed = λ x. false; is_aborted = λ x. false }; top = w.top };
  tables = λ file. empty_table (oid_at w.tables file);
}

-- an open scan: its id, its table by the number, the log up to its opening with the newest record first, the least id that
-- was live then, how many blocks it was given, and what cancelled it
pub record AbstractScan : Type 0 where
  pub id : ℕ
  pub table : ℕ
  pub opened : List Rec
  pub xmin : ℕ
  pub given : ℕ
  pub cause : Option Cause

-- a standby: the position where its life began, the records that it replayed since, the newest first, the position from
-- which on its blocks are consistent, where the backup began whose end is awaited, its open scans in the order of their
-- opening, and the id of the next one
pub record AbstractStandby : Type 0 where
  pub start : ℕ
  pub life : List Rec
  pub min : ℕ
  pub awaited : Option Lsn
  pub scans : List AbstractScan
  pub next_id : ℕ

-- a life begins at the redo position of a base backup, whose end is awaited
abbrev pub life_begins : Lsn → AbstractStandby
life_begins redo = record { start = redo.0; life = []; min = redo.0; awaited = Some redo; scans = []; next_id = 1 }

-- a primary with these tables could write each front of the log from this position on
abbrev pub IsLegal : World → ℕ → Type 0
IsLegal w start =
    (log : List Rec) → Stands w.told (described_in w.tables) start log → LegalLog (log_origin w) (locators w.tables) log

-- where the standby stands
abbrev pub position_of : AbstractStandby → ℕ
position_of s = end_of s.start s.life

-- what is known of running transactions
abbrev pub state_in : AbstractStandby → State
state_in s = state_of (transactions_of s.life)

abbrev pub status_in : AbstractStandby → Status
status_in s = record {
  at = position_of s;
  min = s.min;
  awaited = is_some s.awaited;
  state = state_in s;
  scans = length s.scans;
}

-- scans are admitted from the minimum on, once the backup has ended and the running transactions are known
abbrev pub admits : AbstractStandby → Bool
admits s = nat_le s.min (position_of s) && not (is_some s.awaited) && is_ready (state_in s)

-- so many scans are open at once, and ids go up to 2^63
abbrev pub is_crowded : AbstractStandby → Bool
is_crowded s = nat_le most_scans (length s.scans) || nat_lt (2 ^ 63) s.next_id

-- an open scan after a record: it is cancelled by the first that conflicts with it
unfoldable pub met : World → Rec → AbstractScan → AbstractScan
met w rec scan = record scan {
  cause = first_cause scan.cause (cause_of rec w.tables.database (oid_of w.tables scan.table) scan.xmin);
}

-- the standby after a record
abbrev pub after_record : World → Rec → AbstractStandby → AbstractStandby
after_record w rec s = record s {
  life = rec ∷ s.life;
  awaited = awaited_after rec.kind s.awaited;
  scans = map (met w rec) s.scans;
}

-- the next record is replayed, or why it is not
abbrev pub replayed : World → AbstractStandby → Result Rec Stop → Reply × AbstractStandby
replayed w s (Ok rec) = (Applied rec.end.0, after_record w rec s)
replayed w s (Err (log.Ended why)) = (AtEnd (position_of s) why, s)
replayed w s (Err (log.Refused what)) = (Refused (position_of s) (refusal_of what), s)

-- a scan is opened over the rows that are committed now, where this is the least live id
abbrev pub with_scan : ℕ → ℕ → AbstractStandby → AbstractStandby
with_scan table xmin s = record s {
  scans = s.scans ++ record { id = s.next_id; table = table; opened = s.life; xmin = xmin; given = 0; cause = None } ∷ [];
  next_id = s.next_id + 1;
}

-- the start of the first record of a log that drops the table
abbrev pub first_drop : Bool → ℕ → Option ℕ → Option ℕ
first_drop dropped start (Some at) = Some at
first_drop dropped start None = if dropped then Some start else None

unfoldable pub gone_at : Locator → List Rec → Option ℕ
gone_at file [] = None
gone_at file (rec ∷ older) = first_drop (drops file rec) rec.start.0 (gone_at file older)

-- the last of the locks in force
abbrev pub last_lock : List HeldLock → Option HeldLock
last_lock [] = None
last_lock (held ∷ others) = Some held

-- where scans are admitted one is opened, unless the table's file was dropped, or a lock of the table is in force
abbrev pub opened_unless : Option ℕ → Option HeldLock → ℕ → ℕ → AbstractStandby → Reply × AbstractStandby
opened_unless (Some at) held table xmin s = (Gone at, s)
opened_unless None (Some held) table xmin s = (Locked held.since held.xid, s)
opened_unless None None table xmin s = (Opened s.next_id (position_of s), with_scan table xmin s)

abbrev pub opened : World → ℕ → AbstractStandby → Option ℕ → Reply × AbstractStandby
opened w xmin s None = (NoTable, s)
opened w xmin s (Some table) =
    if is_crowded s then (TooMany, s)
    else if not (admits s) then (NotAdmitted (status_in s), s)
    else
    opened_unless (gone_at (file_of w.tables table) s.life)
    (last_lock (locks (log_origin w) (file_of w.tables table) s.life)) table xmin s

-- the open scan with this id; the scans without it; and the scans once it was given a block
abbrev pub scan_in : ℕ → List AbstractScan → Option AbstractScan
scan_in id [] = None
scan_in id (scan ∷ scans) = if scan.id == id then Some scan else scan_in id scans

abbrev pub without_scan : ℕ → List AbstractScan → List AbstractScan
without_scan id [] = []
without_scan id (scan ∷ scans) = if scan.id == id then scans else scan ∷ without_scan id scans

abbrev pub given_block : ℕ → List AbstractScan → List AbstractScan
given_block id [] = []
given_block id (scan ∷ scans) =
    if scan.id == id then record scan { given = scan.given + 1 } ∷ scans else scan ∷ given_block id scans

-- a scan is given the rows of its next block: those that were committed at its opening, in order of place; and there are
-- more where the table had a further block then
pub record GivesRows (w : World) (scan : AbstractScan) (page : BlockRows) (more : Bool) : Type 0 where
  pub rows : List Version
  pub are_rows :
      IsRows (multixacts scan.opened) (committed_in (log_origin w) scan.opened)
      (versions (log_origin w) (file_of w.tables scan.table) scan.opened) rows
  pub gives : page ≡ rows_of_versions (columns_of w.tables scan.table) (filter (is_in_block scan.given) rows)
  pub further : more ≡ nat_lt (scan.given + 1) (block_count (log_origin w) (file_of w.tables scan.table) scan.opened)

-- the standby then: the scan goes on where there is more and no row was refused
abbrev pub after_block : ℕ → Bool → AbstractStandby → AbstractStandby
after_block id goes_on s = record s { scans = if goes_on then given_block id s.scans else without_scan id s.scans }

-- the standby without the scan with this id
abbrev pub after_close : ℕ → AbstractStandby → AbstractStandby
after_close id s = record s { scans = without_scan id s.scans }

-- what is given of an open scan: what cancelled it, and it is taken away; or the rows of its next block
abbrev pub ReadsUnlessCancelled : World → ℕ → AbstractScan → Option Cause → AbstractStandby → Reply → AbstractStandby → Type 0
ReadsUnlessCancelled w id scan (Some cause) s reply now = (reply ≡ Cancelled id cause) × (now ≡ after_close id s)
ReadsUnlessCancelled w id scan None s reply now =
    (page : BlockRows) × (more : Bool) × GivesRows w scan page more
    × (reply ≡ Page id (table_with w.tables scan.table) scan.given more page)
    × (now ≡ after_block id (more && is_whole page.end) s)

abbrev pub ReadsScan : World → ℕ → Option AbstractScan → AbstractStandby → Reply → AbstractStandby → Type 0
ReadsScan w id None s reply now = (reply ≡ NoScan) × (now ≡ s)
ReadsScan w id (Some scan) s reply now = ReadsUnlessCancelled w id scan scan.cause s reply now

-- the least id that is live where the standby stands, at which its snapshots begin
abbrev pub IsLeastLive : World → AbstractStandby → ℕ → Type 0
IsLeastLive w s xmin = IsXmin (log_origin w).transactions.at xmin (transactions_of s.life)

-- what an event does to a standby, and what it replies
abbrev pub Step : World → Event → AbstractStandby → Reply → AbstractStandby → Type 0
Step w AsksStatus s reply now = (reply ≡ StandsSo (status_in s)) × (now ≡ s)
Step w ReplayOne s reply now = (reply, now) ≡ replayed w s (next_of w.told (described_in w.tables) s.start s.life)
Step w (Open name) s reply now =
    (xmin : ℕ) × (admits s ≡ true → IsLeastLive w s xmin) × ((reply, now) ≡ opened w xmin s (number_named w.tables name))
Step w (Next id) s reply now = ReadsScan w id (scan_in id s.scans) s reply now
Step w (Close id) s reply now =
    (reply ≡ (if is_some (scan_in id s.scans) then Closed id else NoScan))
    × (now ≡ after_close id s)
