-- What a session asks of a standby, event by event, and what is replied.
use Rattle.std.specs.Prelude.{ℕ, Bool, true, false, List}
use Rattle.known_assigned.specs.declared.state.State.{State}
use Rattle.wal_reader.specs.declared.types.EndWhy.{EndWhy}
use Rattle.table_schema.specs.Description.{DescribedTable}
use Rattle.seq_scan.specs.BlockRows.{BlockEnd, BlockRows, Whole, ToastedAt, BadAt, UnknownAt, NoPage}
use Rattle.recovery_conflict.specs.declared.locks.Cause.{Cause}
use Rattle.standby_core.specs.declared.types.Refusal.{Refusal}

-- the status is asked for; one record is replayed; a scan of the table with this name is opened; the open scan with this id
-- is given its next page; it is closed
pub data Event : Type 0 where
  AsksStatus : Event
  ReplayOne : Event
  Open : (table : List ℕ) → Event
  Next : (id : ℕ) → Event
  Close : (id : ℕ) → Event

-- where a standby stands: its position, the one from which on its blocks are consistent, whether the end of the base
-- backup is awaited, what is known of running transactions, and how many scans are open
pub record Status : Type 0 where
  pub at : ℕ
  pub min : ℕ
  pub awaited : Bool
  pub state : State
  pub scans : ℕ

-- the standby stands so; a record was applied, and the standby stands at its end; the log ends here, by this rule; the
-- record here is refused; a scan with this id is open, over the rows that were committed at this position; the table is
-- not described; too many scans are or were open; scans are not admitted; the rows of a block of a scan, and whether there
-- are more blocks; a scan was closed; no such scan is open; the record that starts here dropped the table's file; this
-- transaction holds a lock of the table, which the record that starts here told; a scan was cancelled, and is taken away
pub data Reply : Type 0 where
  Stands : Status → Reply
  Applied : (at : ℕ) → Reply
  AtEnd : (at : ℕ) → EndWhy → Reply
  Refused : (at : ℕ) → Refusal → Reply
  Opened : (id at : ℕ) → Reply
  NoTable : Reply
  TooMany : Reply
  NotAdmitted : Status → Reply
  Page : (id : ℕ) → DescribedTable → (block : ℕ) → (more : Bool) → BlockRows → Reply
  Closed : (id : ℕ) → Reply
  NoScan : Reply
  Gone : (lsn : ℕ) → Reply
  Locked : (lsn xid : ℕ) → Reply
  Cancelled : (id : ℕ) → Cause → Reply

-- a record was applied
abbrev pub is_applied : Reply → Bool
is_applied (Applied at) = true
is_applied (Stands status) = false
is_applied (AtEnd at why) = false
is_applied (Refused at what) = false
is_applied (Opened id at) = false
is_applied NoTable = false
is_applied TooMany = false
is_applied (NotAdmitted status) = false
is_applied (Page id table block more page) = false
is_applied (Closed id) = false
is_applied NoScan = false
is_applied (Gone lsn) = false
is_applied (Locked lsn xid) = false
is_applied (Cancelled id cause) = false

-- the rows end at what is damaged
abbrev pub is_damage : BlockEnd → Bool
is_damage Whole = false
is_damage (ToastedAt line column) = false
is_damage (BadAt line column) = false
is_damage (UnknownAt line id) = true
is_damage NoPage = true

-- a record was refused, or a scan met damage
abbrev pub is_trouble : Reply → Bool
is_trouble (Refused at what) = true
is_trouble (Page id table block more page) = is_damage page.end
is_trouble (Stands status) = false
is_trouble (Applied at) = false
is_trouble (AtEnd at why) = false
is_trouble (Opened id at) = false
is_trouble NoTable = false
is_trouble TooMany = false
is_trouble (NotAdmitted status) = false
is_trouble (Closed id) = false
is_trouble NoScan = false
is_trouble (Gone lsn) = false
is_trouble (Locked lsn xid) = false
is_trouble (Cancelled id cause) = false
