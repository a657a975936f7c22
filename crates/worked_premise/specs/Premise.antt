-- The example's description and archive as a witness of the premise of what is answered over a legal log, and that answer:
-- from the bytes of two files to the text of a scan and of a session.
-- Sources: xlogreader.c (XLogReadRecord), heapam.c (heap_insert, heapgettup), heaptuple.c (heap_deform_tuple).
use Rattle.std.specs.Prelude.{◌≡◌, ℕ, pos, Bool, false, List, [], ◌∷◌, ◌++◌, None, codes}
use Rattle.heap_tuple.specs.declared.cell.Cell.{Cell}
use Rattle.heap_tuple.specs.declared.cell.Cell.TheVariants.{Int as IntCell, Bytes as BytesCell}
use Rattle.wal_reader.specs.declared.types.EndWhy.TheVariants.{Zero}
use Rattle.seq_scan.specs.BlockRows.{BlockRows, Whole}
use Rattle.table_schema.specs.Tables.{file_of}
use Rattle.row_model.specs.Versions.{Version}
use Rattle.row_model.specs.WorkedRows.{inserted_by_700}
use Rattle.row_model.specs.Multixacts.{multixacts}
use Rattle.row_model.specs.Origins.{committed_in}
use Rattle.row_model.specs.Rows.{IsRows}
use Rattle.row_model.specs.RowSteps.{versions}
use Rattle.transaction_model.specs.Transactions.{IsXmin}
use Rattle.xact_redo.specs.TransactionsOf.{transactions_of}
use Rattle.standby_core.specs.Standby.{Standby, described_in}
use Rattle.standby_model.specs.Archived.{told_by}
use Rattle.standby_model.specs.Log.{IsLog, Ended}
use Rattle.session_model.specs.Answers.{Steps}
use Rattle.session_model.specs.NodeSteps.{NodeStep}
use Rattle.session_model.specs.Scans.{IsScan}
use Rattle.session_model.specs.Sessions.{IsSession}
use Rattle.session_model.specs.Texts.{line}
use Rattle.legal_session.specs.AbstractStandby.{AbstractScan, AbstractStandby, GivesRows, IsLegal, Step, World, life_begins, log_origin}
use Rattle.run_model.specs.Origin.{origin, start}
use Rattle.run_model.specs.Starts.{Scans, Holds, Starts}
use Rattle.worked_archive.specs.WorkedArchive.{files, log}
use Rattle.worked_premise.specs.WorkedSchema.{base, tables}

-- each id is a top transaction
abbrev pub top : ℕ → ℕ
top xid = xid

-- the described tables, and the log that the files tell
abbrev pub world : World
world = record { tables = tables; told = told_by files; top = top }

-- a primary with the described tables could write each front of the log that the files tell
abbrev pub FilesAreLegal : Type 0
FilesAreLegal = IsLegal world origin.redo.0

-- the version of t that 700 inserted
abbrev pub inserted : Version
inserted = inserted_by_700 (1 ∷ 0 ∷ 0 ∷ 0 ∷ 9 ∷ 111 ∷ 110 ∷ 101 ∷ [])

-- its values
abbrev pub row : List Cell
row = IntCell (pos 1) ∷ BytesCell (codes "one") ∷ []

-- versions of t are the rows that were committed at the end of the log
abbrev pub AreRows : List Version → Type 0
AreRows rows =
    IsRows (multixacts log) (committed_in (log_origin world) log) (versions (log_origin world) (file_of tables 0) log) rows

-- a scan of t that is opened at the end of the log, where 701 is the least live id
abbrev pub scan : AbstractScan
scan = record { id = 1; table = 0; opened = log; xmin = 701; given = 0; cause = None }

-- what it is given first: that row
abbrev pub page : BlockRows
page = record { rows = row ∷ []; end = Whole }

-- The log that the files tell is the worked one, up to the zeros behind the commit. At its end that version is the row of
-- t, and there is no other; 701 is the least live id; and a scan is given its values, with no block behind it, and nothing
-- else.
pub record FilesTellRows : Type 0 where
  pub is_log : IsLog (told_by files) (described_in tables) origin.redo.0 log (Ended Zero)
  pub are_rows : AreRows (inserted ∷ [])
  pub only_rows : (rows : List Version) → AreRows rows → rows ≡ inserted ∷ []
  pub least : IsXmin (log_origin world).transactions.at scan.xmin (transactions_of scan.opened)
  pub gives : GivesRows world scan page false
  pub only_gives : (other : BlockRows) (more : Bool) → GivesRows world scan other more → (other ≡ page) × (more ≡ false)

-- what a node does over the archive's bytes, and what a standby does as the log has it
abbrev pub node_step : Steps Standby
node_step = NodeStep (told_by files).byte

abbrev pub legal_step : Steps AbstractStandby
legal_step = Step world

-- the words `scan t`
abbrev pub scan_words : List (List ℕ)
scan_words = codes "scan" ∷ codes "t" ∷ []

-- the lines of the scan, with a tab (9) between the values
abbrev pub scan_text : List ℕ
scan_text = line (codes "scan 1 at 0/2000168") ++ line (codes "row 1" ++ 9 ∷ codes "one") ++ line (codes "end 1")

-- a scan of t has this text, the exit status 0, and no other text or status
pub record ScansSo {S : Type 0} (step : Steps S) (s : S) : Type 0 where
  pub is : IsScan step s (codes "t") scan_text 0
  pub only : (text : List ℕ) (status : ℕ) → IsScan step s (codes "t") text status → (text ≡ scan_text) × (status ≡ 0)

-- Those words begin a scan of t over the description that the base folder has, and a node that replays the files answers
-- so. So does a standby as the log has it.
pub record ScanIsAnswered : Type 0 where
  pub starts : Starts scan_words base (Scans tables (codes "t"))
  pub node : ScansSo node_step (start tables)
  pub legal : ScansSo legal_step (life_begins origin.redo)

-- the word `session`
abbrev pub session_words : List (List ℕ)
session_words = codes "session" ∷ []

-- the lines of a session that replays the log, opens a scan of t and reads its first page
abbrev pub source : List ℕ
source = line (codes "replay 9") ++ line (codes "open t") ++ line (codes "next 1")

-- its answers: five records are replayed; then those of the scan
abbrev pub session_text : List ℕ
session_text = line (codes "replayed 5 at 0/2000168 end: zero") ++ scan_text

-- That word begins a session over that description, and a node answers those lines so, with the exit status 0. So does a
-- standby as the log has it.
pub record SessionIsAnswered : Type 0 where
  pub starts : Starts session_words base (Holds tables)
  pub node : IsSession node_step (start tables) source session_text 0
  pub legal : IsSession legal_step (life_begins origin.redo) source session_text 0
