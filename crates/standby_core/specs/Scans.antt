-- Open scans of a node: when one is admitted, what it is given, and what is left of it then (xlogrecovery.c, CheckRecoveryConsistency; procarray.c, GetSnapshotData).
use Rattle.std.specs.Prelude.{◌≡◌, ℕ, ◌+◌, ◌^◌, ◌<◌, ◌==◌, Bool, true, false, not, ◌&&◌, ◌||◌, nat_lt, nat_le, List, [], ◌∷◌, ◌++◌, get_or, length, Option, Some, None, is_some, if◌then◌else◌}
use Rattle.std.specs.List.{flat_map}
use Rattle.known_assigned.specs.declared.state.State.{State}
use Rattle.known_assigned.specs.declared.state.State.TheVariants.{Initialized, Pending, Ready}
use Rattle.page_store.specs.Seen.{Seen, View, absent, bad_block, seen_page}
use Rattle.standby_snapshot.specs.Snapshot.{take_of}
use Rattle.table_schema.specs.Tables.{columns_of, number_named}
use Rattle.seq_scan.specs.BlockRows.{BlockRows, BlockEnd, Whole, ToastedAt, BadAt, UnknownAt, NoPage}
use Rattle.seq_scan.specs.Printed.{row_line}
use Rattle.seq_scan.specs.declared.scan.PageEnd.{PageEnd}
use Rattle.seq_scan.specs.declared.scan.PageEnd.TheVariants as page
use Rattle.seq_scan.specs.Scans.{OpenScan, after_page, end_of_page, has_more, page_of}
use Rattle.xact_redo.specs.Sees.{sees_by}
use Rattle.pg_types.specs.declared.names.Lsn.{Lsn}
use Rattle.recovery_conflict.specs.declared.locks.Cause.{Cause}
use Rattle.recovery_conflict.specs.declared.locks.HeldLock.{HeldLock}
use Rattle.recovery_conflict.specs.Held.{last_of}
use Rattle.standby_core.specs.declared.scans.NodePage.{NodePage}
use Rattle.standby_core.specs.declared.scans.NodePage.TheVariants as given
use Rattle.standby_core.specs.declared.scans.NodeScan.{NodeScan}
use Rattle.standby_core.specs.declared.scans.Opened.{Opened}
use Rattle.standby_core.specs.declared.scans.Opened.TheVariants as opened
use Rattle.standby_core.specs.declared.scans.PrintedPage.{PrintedPage}
use Rattle.standby_core.specs.declared.scans.PrintedPage.TheVariants as printed
use Rattle.standby_core.specs.Conflicts.{oid_of}
use Rattle.standby_core.specs.Standby.{Standby, node_status}

abbrev pub is_ready : State → Bool
is_ready Initialized = false
is_ready (Pending until) = false
is_ready Ready = true

-- scans are admitted where the blocks are consistent, which they are from the minimum on once the base backup has
-- ended, and the running transactions are known (hot_standby, xlogrecovery.c, CheckRecoveryConsistency)
abbrev pub is_admitted : Standby → Bool
is_admitted node = nat_le node.min.0 node.at.0 && not (is_some node.awaited) && is_ready node.transactions.known.mode

-- so many scans are open at once, and ids go up to 2^63
abbrev pub most_scans : ℕ
most_scans = 64

abbrev pub is_crowded : Standby → Bool
is_crowded node = nat_le most_scans (length node.scans) || nat_lt (2 ^ 63) node.next_id

abbrev pub is_there : Seen → Bool
is_there absent = false
is_there bad_block = true
is_there (seen_page lsn items) = true

-- a table has this many blocks
abbrev pub HasBlocks : View → ℕ → ℕ → Type 0
HasBlocks view table count = (block : ℕ) → is_there (view table block) ≡ nat_lt block count

-- the open scan with this id
abbrev pub scan_with : ℕ → List NodeScan → Option NodeScan
scan_with id [] = None
scan_with id (one ∷ scans) = if one.id == id then Some one else scan_with id scans

-- the scans without it
abbrev pub without : ℕ → List NodeScan → List NodeScan
without id [] = []
without id (one ∷ scans) = if one.id == id then scans else one ∷ without id scans

-- the scans once it was given a page
abbrev pub moved_on : ℕ → List NodeScan → List NodeScan
moved_on id [] = []
moved_on id (one ∷ scans) =
    if one.id == id then record one { scan = after_page one.scan } ∷ scans else one ∷ moved_on id scans

-- a scan of the table that is opened now, with so many blocks
abbrev pub new_scan : ℕ → ℕ → Standby → NodeScan
new_scan table count node = record {
  id = node.next_id;
  scan = record { table = table; blocks = count; at = node.at; snapshot = take_of node.transactions.known; given = 0 };
  cause = None;
}

-- the node with it
abbrev pub with_new_scan : ℕ → ℕ → Standby → Standby
with_new_scan table count node =
    record node { scans = node.scans ++ new_scan table count node ∷ []; next_id = node.next_id + 1 }

abbrev pub is_whole : BlockEnd → Bool
is_whole Whole = true
is_whole (ToastedAt line column) = false
is_whole (BadAt line column) = false
is_whole (UnknownAt line id) = false
is_whole NoPage = false

-- what a scan is given next: of the blocks as they are now, by the snapshot of its opening and the statuses known now
abbrev pub node_page : Standby → OpenScan → BlockRows
node_page node scan =
    page_of (columns_of node.tables scan.table) (sees_by scan.snapshot node.transactions) (node.blocks scan.table) scan

-- there is more to be given behind a page that ends so
abbrev pub is_more : PageEnd → Bool
is_more (page.Rows more) = more
is_more (page.Toasted place column) = false
is_more (page.BadRow place column) = false
is_more (page.Damaged place what) = false

-- it stays open where there is more to be given
abbrev pub goes_on : OpenScan → BlockRows → Bool
goes_on scan page = has_more scan && is_whole page.end

-- the node once the scan with this id was given its next page
abbrev pub after_reading : ℕ → OpenScan → Standby → Standby
after_reading id scan node =
    record node { scans = if goes_on scan (node_page node scan) then moved_on id node.scans else without id node.scans }

-- the node without the scan with this id
abbrev pub after_closing : ℕ → Standby → Standby
after_closing id node = record node { scans = without id node.scans }

-- the answer to an opening: the table is not described, too many scans are open or were, scans are not admitted, the
-- table's file was dropped, a lock of the table is in force, or a scan with the next id is open
abbrev pub OpensScan : Standby → ℕ → Opened → Standby → Type 0
OpensScan old table reply new =
    (count : ℕ) × HasBlocks old.blocks table count × (reply ≡ opened.Scan old.next_id old.at) × (new ≡ with_new_scan table count old)

abbrev pub OpensUnlessLocked : Option HeldLock → Standby → ℕ → Opened → Standby → Type 0
OpensUnlessLocked (Some held) old table reply new = (reply ≡ opened.Locked held.since held.entry.xid) × (new ≡ old)
OpensUnlessLocked None old table reply new = OpensScan old table reply new

-- the last lock in force of the table with this number
abbrev pub lock_of : Standby → ℕ → Option HeldLock
lock_of node table = last_of node.tables.database (oid_of node.tables table) node.locks None

abbrev pub OpensUnlessGone : Option Lsn → Standby → ℕ → Opened → Standby → Type 0
OpensUnlessGone (Some lsn) old table reply new = (reply ≡ opened.Gone lsn) × (new ≡ old)
OpensUnlessGone None old table reply new = OpensUnlessLocked (lock_of old table) old table reply new

-- since when the table with this number is gone, if it is
abbrev pub gone_since : Standby → ℕ → Option Lsn
gone_since node table = get_or node.gone table None

abbrev pub OpensAdmitted : Bool → Standby → ℕ → Opened → Standby → Type 0
OpensAdmitted true old table reply new = OpensUnlessGone (gone_since old table) old table reply new
OpensAdmitted false old table reply new = (reply ≡ opened.NotAdmitted (node_status old)) × (new ≡ old)

abbrev pub OpensUnlessCrowded : Bool → Standby → ℕ → Opened → Standby → Type 0
OpensUnlessCrowded true old table reply new = (reply ≡ opened.TooMany) × (new ≡ old)
OpensUnlessCrowded false old table reply new = OpensAdmitted (is_admitted old) old table reply new

abbrev pub OpensTable : Option ℕ → Standby → Opened → Standby → Type 0
OpensTable None old reply new = (reply ≡ opened.NoTable) × (new ≡ old)
OpensTable (Some table) old reply new = OpensUnlessCrowded (is_crowded old) old table reply new

abbrev pub Opens : List ℕ → Standby → Opened → Standby → Type 0
Opens name old reply new = OpensTable (number_named old.tables name) old reply new

-- a scan that was cancelled tells why, and is taken away; another is given its next page
abbrev pub GivesUnlessCancelled : ℕ → Option Cause → OpenScan → Standby → Option NodePage → Standby → Type 0
GivesUnlessCancelled id (Some cause) scan old page new = (page ≡ Some (given.Cancelled cause)) × (new ≡ after_closing id old)
GivesUnlessCancelled id None scan old page new =
    (page ≡ Some (given.Given scan.table (node_page old scan).rows (end_of_page scan (node_page old scan)))) × (new ≡ after_reading id scan old)

-- the next page of the scan with this id, if it is open
abbrev pub GivesPage : ℕ → Option NodeScan → Standby → Option NodePage → Standby → Type 0
GivesPage id None old page new = (page ≡ None) × (new ≡ old)
GivesPage id (Some one) old page new = GivesUnlessCancelled id one.cause one.scan old page new

-- the same, with a line for each of its rows behind what stood in a text
abbrev pub PrintsUnlessCancelled :
    ℕ → Option Cause → OpenScan → Standby → Option PrintedPage → Standby → List ℕ → List ℕ → List ℕ → Type 0
PrintsUnlessCancelled id (Some cause) scan old page new head before now =
    (page ≡ Some (printed.Cancelled cause)) × (new ≡ after_closing id old) × (now ≡ before)
PrintsUnlessCancelled id None scan old page new head before now =
    (page ≡ Some (printed.Given scan.table (end_of_page scan (node_page old scan))))
    × (new ≡ after_reading id scan old)
    × (now ≡ before ++ flat_map (row_line head (columns_of old.tables scan.table)) (node_page old scan).rows)

abbrev pub PrintsPage : ℕ → Option NodeScan → Standby → Option PrintedPage → Standby → List ℕ → List ℕ → List ℕ → Type 0
PrintsPage id None old page new head before now = (page ≡ None) × (new ≡ old) × (now ≡ before)
PrintsPage id (Some one) old page new head before now = PrintsUnlessCancelled id one.cause one.scan old page new head before now

-- a page that was given is of one of so many tables
abbrev pub IsGivenBelow : ℕ → NodePage → Type 0
IsGivenBelow count (given.Given table rows end) = table < count
IsGivenBelow count (given.Cancelled cause) = Unit {0}

abbrev pub IsPrintedBelow : ℕ → PrintedPage → Type 0
IsPrintedBelow count (printed.Given table end) = table < count
IsPrintedBelow count (printed.Cancelled cause) = Unit {0}
