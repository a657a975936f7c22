-- What each event does to a standby's node, and what it replies (xlogrecovery.c, PerformWalRecovery and ApplyWalRecord;
-- CheckRecoveryConsistency; heapam.c, heap_getnextslot). The node is taken without what it keeps of the log.
use Rattle.std.specs.Prelude.{◌≡◌, ℕ, [], Option, None, Some, Result, Ok, Err, is_some, if◌then◌else◌}
use Rattle.wal_record.specs.declared.types.PrevRule.TheVariants.{Is}
use Rattle.typed_records.specs.declared.types.Rec.{Rec}
use Rattle.page_store.specs.Seen.{View}
use Rattle.heap_redo.specs.declared.fault.RedoFault.{RedoFault}
use Rattle.heap_redo.specs.Redone.{redone_record}
use Rattle.table_schema.specs.Description.{locators}
use Rattle.table_schema.specs.Tables.{table_with}
use Rattle.seq_scan.specs.Scans.{OpenScan, has_more}
use Rattle.xact_redo.specs.State.{state_after}
use Rattle.standby_model.specs.Log as log
use Rattle.standby_model.specs.Log.{Stop, record_at}
use Rattle.standby_core.specs.declared.types.NodeStatus.{NodeStatus}
use Rattle.standby_core.specs.declared.types.Refusal.{Refusal}
use Rattle.standby_core.specs.declared.types.Replayed.{Replayed}
use Rattle.standby_core.specs.declared.types.Replayed.TheVariants as replayed
use Rattle.recovery_conflict.specs.declared.locks.Cause.{Cause}
use Rattle.recovery_conflict.specs.Held.{locks_after}
use Rattle.standby_core.specs.Conflicts.{cancelled_by, gone_after}
use Rattle.standby_core.specs.Horizon.{parents_kept}
use Rattle.standby_core.specs.declared.scans.NodeScan.{NodeScan}
use Rattle.standby_core.specs.declared.scans.Opened.{Opened as OpenedBy}
use Rattle.standby_core.specs.declared.scans.Opened.TheVariants as opened
use Rattle.standby_core.specs.Standby.{Standby, described_to, node_status, told_to}
use Rattle.standby_core.specs.Replay.{awaited_after, redo_refusal, refusal_of}
use Rattle.standby_core.specs.Scans.{Opens, after_closing, after_reading, node_page, scan_with}
use Rattle.session_model.specs.Events.{Event, AsksStatus, ReplayOne, Open, Next, Close, Reply, Status, Stands, Applied, AtEnd, Refused, Opened, NoTable, TooMany, NotAdmitted, Page, Closed, NoScan, Gone, Locked, Cancelled}

-- a node without what it keeps of the log
abbrev pub bare : Standby → Standby
bare node = record node { kept = record { from = 0; bytes = [] } }

-- a status in numbers
abbrev pub status_by : NodeStatus → Status
status_by status = record {
  at = status.at.0;
  min = status.min.0;
  awaited = status.awaited;
  state = status.state;
  scans = status.scans;
}

-- a node after a record that leaves these blocks
abbrev pub applied : Rec → View → Standby → Standby
applied rec blocks node = record node {
  at = rec.end;
  prev = Is rec.start;
  awaited = awaited_after rec.kind node.awaited;
  blocks = blocks;
  transactions = parents_kept rec node.scans (state_after rec node.transactions);
  scans = cancelled_by rec node.tables node.scans;
  locks = locks_after rec node.locks;
  gone = gone_after rec (locators node.tables) node.gone;
}

-- by what redo of the record leaves: where it is refused at one of its blocks, those before that one are changed
abbrev pub ReplaysBlocks : Rec → View → Result (Unit {0}) RedoFault → Standby → Reply → Standby → Type 0
ReplaysBlocks rec blocks (Ok done) old reply new = (reply ≡ Applied rec.end.0) × (new ≡ applied rec blocks old)
ReplaysBlocks rec blocks (Err fault) old reply new =
    (what : Refusal) × (redo_refusal fault ≡ Some what) × (reply ≡ Refused old.at.0 what) × (new ≡ record old { blocks = blocks })

-- by what stands at the node's position
abbrev pub ReplaysOne : Result Rec Stop → Standby → Reply → Standby → Type 0
ReplaysOne (Ok rec) old reply new =
    ReplaysBlocks rec (redone_record rec (locators old.tables) old.blocks).0
    (redone_record rec (locators old.tables) old.blocks).1 old reply new
ReplaysOne (Err (log.Ended why)) old reply new = (reply ≡ AtEnd old.at.0 why) × (new ≡ old)
ReplaysOne (Err (log.Refused what)) old reply new = (reply ≡ Refused old.at.0 (refusal_of what)) × (new ≡ old)

-- the reply to an opening
abbrev pub opening_reply : OpenedBy → Reply
opening_reply (opened.Scan id at) = Opened id at.0
opening_reply opened.NoTable = NoTable
opening_reply opened.TooMany = TooMany
opening_reply (opened.Gone lsn) = Gone lsn.0
opening_reply (opened.Locked lsn xid) = Locked lsn.0 xid.0
opening_reply (opened.NotAdmitted status) = NotAdmitted (status_by status)

-- a scan that was cancelled tells why, and is taken away; another is given its next page
abbrev pub ReadsUnlessCancelled : ℕ → Option Cause → OpenScan → Standby → Reply → Standby → Type 0
ReadsUnlessCancelled id (Some cause) scan old reply new = (reply ≡ Cancelled id cause) × (new ≡ after_closing id old)
ReadsUnlessCancelled id None scan old reply new =
    (reply ≡ Page id (table_with old.tables scan.table) scan.given (has_more scan) (node_page old scan))
    × (new ≡ after_reading id scan old)

-- the next page of the scan with this id
abbrev pub Reads : ℕ → Option NodeScan → Standby → Reply → Standby → Type 0
Reads id None old reply new = (reply ≡ NoScan) × (new ≡ old)
Reads id (Some one) old reply new = ReadsUnlessCancelled id one.cause one.scan old reply new

-- a step of the node over the log that these bytes tell
abbrev pub NodeStep : (ℕ → Option ℕ) → Event → Standby → Reply → Standby → Type 0
NodeStep byte AsksStatus old reply new = (reply ≡ Stands (status_by (node_status old))) × (new ≡ old)
NodeStep byte ReplayOne old reply new =
    ReplaysOne (record_at (told_to old byte) (described_to old) old.at.0 old.prev) old reply new
NodeStep byte (Open name) old reply new = (answer : OpenedBy) × Opens name old answer new × (reply ≡ opening_reply answer)
NodeStep byte (Next id) old reply new = Reads id (scan_with id old.scans) old reply new
NodeStep byte (Close id) old reply new =
    (reply ≡ (if is_some (scan_with id old.scans) then Closed id else NoScan)) × (new ≡ after_closing id old)

-- the reply to a single replay
abbrev pub replay_reply : Replayed → Reply
replay_reply (replayed.Applied start at cancelled) = Applied at.0
replay_reply (replayed.AtEnd lsn why) = AtEnd lsn.0 why
replay_reply (replayed.Refused lsn what) = Refused lsn.0 what
