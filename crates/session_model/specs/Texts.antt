-- The text of each answer of a session, in whole lines.
use Rattle.std.specs.Prelude.{ℕ, Bool, true, false, List, [], ◌∷◌, ◌++◌, codes, slice_get, unwrap_or, if◌then◌else◌}
use Rattle.std.specs.List.{flat_map}
use Rattle.std.specs.Fmt.{decimal}
use Rattle.pg_types.specs.Names.{lsn_text}
use Rattle.known_assigned.specs.declared.state.State.{State}
use Rattle.known_assigned.specs.declared.state.State.TheVariants.{Initialized, Pending, Ready}
use Rattle.wal_reader.specs.declared.types.EndWhy.{EndWhy}
use Rattle.wal_reader.specs.declared.types.EndWhy.TheVariants as why
use Rattle.typed_records.specs.declared.types.What.{What}
use Rattle.typed_records.specs.declared.types.What.TheVariants.{Prepared, InPlace, Minimal, PageWrites, Database, Epoch, NotYet}
use Rattle.heap_tuple.specs.declared.cell.Cell.{Cell}
use Rattle.heap_tuple.specs.declared.cell.Column.{Column}
use Rattle.table_schema.specs.Description.{DescribedTable}
use Rattle.table_schema.specs.RowText.{row_text}
use Rattle.seq_scan.specs.BlockRows.{BlockRows, BlockEnd, Whole, ToastedAt, BadAt, UnknownAt, NoPage}
use Rattle.recovery_conflict.specs.declared.locks.Cause.{Cause}
use Rattle.recovery_conflict.specs.declared.locks.Cause.TheVariants.{Horizon, Lock}
use Rattle.standby_core.specs.declared.types.Refusal.{Refusal}
use Rattle.standby_core.specs.declared.types.Refusal.TheVariants.{Compressed, TooLong, Length, Unsupported, NoPage as NoSuchPage, NoTuple, PageFull, BadPage}
use Rattle.session_model.specs.Events.{Reply, Status, Stands, Applied, AtEnd, Refused, Opened, NoTable, TooMany, NotAdmitted, Page, Closed, NoScan, Gone, Locked, Cancelled}
use Rattle.session_model.specs.Answers.{Answer, NotUnderstood, Replied, Replayed}

-- a line
abbrev pub line : List ℕ → List ℕ
line text = text ++ 10 ∷ []

-- `row`, then the values of a row of a table with these columns
unfoldable pub row_line : List Column → List Cell → List ℕ
row_line columns row = line (codes "row " ++ row_text columns row)

-- a block and a line
abbrev pub place_text : ℕ → ℕ → List ℕ
place_text block line_ = decimal block ++ codes "," ++ decimal line_

-- the name of a table's column
abbrev pub column_name : DescribedTable → ℕ → List ℕ
column_name table column = unwrap_or (slice_get table.column_names column) []

-- the last line of a block's rows
unfoldable pub end_line : ℕ → DescribedTable → ℕ → Bool → BlockEnd → List ℕ
end_line id table block more Whole = line ((if more then codes "more " else codes "end ") ++ decimal id)
end_line id table block more (ToastedAt line_ column) =
    line (codes "toasted " ++ decimal id ++ codes " " ++ place_text block line_ ++ codes " " ++ column_name table column)
end_line id table block more (BadAt line_ column) =
    line (codes "bad row " ++ decimal id ++ codes " " ++ place_text block line_ ++ codes " " ++ column_name table column)
end_line id table block more (UnknownAt line_ multi) =
    line (codes "damaged " ++ decimal id ++ codes " " ++ place_text block line_ ++ codes " multi " ++ decimal multi)
end_line id table block more NoPage = line (codes "damaged " ++ decimal id ++ codes " " ++ place_text block 0 ++ codes " page")

-- the lines of a block: its rows, and how they end
abbrev pub page_text : ℕ → DescribedTable → ℕ → Bool → BlockRows → List ℕ
page_text id table block more page =
    flat_map (row_line table.columns) page.rows ++ end_line id table block more page.end

abbrev pub what_text : What → List ℕ
what_text Prepared = codes "unsupported prepared"
what_text InPlace = codes "unsupported inplace"
what_text Minimal = codes "unsupported minimal"
what_text PageWrites = codes "unsupported page writes"
what_text Database = codes "unsupported database"
what_text Epoch = codes "unsupported epoch"
what_text NotYet = codes "not yet"

abbrev pub refusal_text : Refusal → List ℕ
refusal_text Compressed = codes "compressed"
refusal_text TooLong = codes "too long"
refusal_text Length = codes "length"
refusal_text (Unsupported what) = what_text what
refusal_text (NoSuchPage block) = codes "no page " ++ decimal block
refusal_text (NoTuple place) = codes "no tuple " ++ place_text place.block place.line
refusal_text (PageFull place) = codes "page full " ++ place_text place.block place.line
refusal_text (BadPage block) = codes "bad page " ++ decimal block

abbrev pub state_text : State → List ℕ
state_text Initialized = codes "initialized"
state_text (Pending until) = codes "pending"
state_text Ready = codes "ready"

abbrev pub backup_text : Bool → List ℕ
backup_text true = codes "awaited"
backup_text false = codes "ended"

-- the rule by which a log ends
abbrev pub why_text : EndWhy → List ℕ
why_text why.Missing = codes "missing"
why_text why.Page = codes "page"
why_text why.Zero = codes "zero"
why_text why.Short = codes "short"
why_text why.Manager = codes "manager"
why_text why.Prev = codes "prev"
why_text why.Crc = codes "crc"
why_text why.Layout = codes "layout"

-- a standby's status, on its first timeline and not promoted
abbrev pub status_text : Status → List ℕ
status_text status =
    codes "status tli=1 at=" ++ lsn_text status.at ++ codes " min=" ++ lsn_text status.min ++ codes " backup="
    ++ backup_text status.awaited ++ codes " state=" ++ state_text status.state ++ codes " scans=" ++ decimal status.scans
    ++ codes " promoted=no"

-- why a scan was cancelled
abbrev pub cause_text : Cause → List ℕ
cause_text (Horizon lsn horizon) = codes "horizon " ++ lsn_text lsn.0 ++ codes " " ++ decimal horizon.0
cause_text (Lock lsn xid) = codes "lock " ++ lsn_text lsn.0 ++ codes " " ++ decimal xid.0

-- the text of a reply. That of a single replay is never asked for
unfoldable pub reply_text : Reply → List ℕ
reply_text (Stands status) = line (status_text status)
reply_text (Applied at) = []
reply_text (AtEnd at why) = []
reply_text (Refused at what) = []
reply_text (Opened id at) = line (codes "scan " ++ decimal id ++ codes " at " ++ lsn_text at)
reply_text NoTable = line (codes "no table")
reply_text TooMany = line (codes "too many")
reply_text (NotAdmitted status) =
    line (codes "not admitted min=" ++ lsn_text status.min ++ codes " at=" ++ lsn_text status.at
    ++ codes " backup=" ++ backup_text status.awaited ++ codes " state=" ++ state_text status.state)
reply_text (Page id table block more page) = page_text id table block more page
reply_text (Closed id) = line (codes "closed " ++ decimal id)
reply_text NoScan = line (codes "no scan")
reply_text (Gone lsn) = line (codes "gone " ++ lsn_text lsn)
reply_text (Locked lsn xid) = line (codes "locked " ++ lsn_text lsn ++ codes " " ++ decimal xid)
reply_text (Cancelled id cause) = line (codes "cancelled " ++ decimal id ++ codes " " ++ cause_text cause)

-- so many records were applied, up to here
abbrev pub replayed_text : ℕ → ℕ → List ℕ
replayed_text count at = codes "replayed " ++ decimal count ++ codes " at " ++ lsn_text at

-- and why no more were
unfoldable pub replays_text : ℕ → Reply → List ℕ
replays_text count (Applied at) = line (replayed_text count at)
replays_text count (AtEnd at why) = line (replayed_text count at ++ codes " end: " ++ why_text why)
replays_text count (Refused at what) = line (replayed_text count at ++ codes " refused: " ++ refusal_text what)
replays_text count (Stands status) = []
replays_text count (Opened id at) = []
replays_text count NoTable = []
replays_text count TooMany = []
replays_text count (NotAdmitted status) = []
replays_text count (Page id table block more page) = []
replays_text count (Closed id) = []
replays_text count NoScan = []
replays_text count (Gone lsn) = []
replays_text count (Locked lsn xid) = []
replays_text count (Cancelled id cause) = []

-- the text of an answer
unfoldable pub answer_text : Answer → List ℕ
answer_text NotUnderstood = line (codes "error line")
answer_text (Replied reply) = reply_text reply
answer_text (Replayed count last) = replays_text count last
