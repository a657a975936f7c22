-- What a scan of a table, by a standby that replayed its log to the end, gives of the table's rows.
use Rattle.std.specs.Prelude.{◌≡◌, ◌≢◌, ℕ, ◌<◌, true, false, List, ◌++◌, None, Some, Ok}
use Rattle.std.specs.List.{list_any}
use Rattle.pg_types.specs.declared.names.Lsn.{Lsn}
use Rattle.record_numbers.specs.Bytes.{TellsBytes}
use Rattle.row_model.specs.Versions.{Version}
use Rattle.row_model.specs.RowSteps.{block_count, versions}
use Rattle.row_model.specs.Rows.{IsRows}
use Rattle.row_model.specs.Origins.{committed_in}
use Rattle.row_model.specs.Multixacts.{multixacts}
use Rattle.row_pages.specs.Pages.{rows_of_versions}
use Rattle.table_schema.specs.Reading as schema
use Rattle.table_schema.specs.Tables.{columns_of, file_of, number_named}
use Rattle.standby_core.specs.declared.types.Refusal.{Refusal}
use Rattle.session_model.specs.Events.{Open, Reply, Opened}
use Rattle.session_model.specs.Texts.{reply_text}
use Rattle.session_model.specs.Scans.{IsScan, ScansFirst, end_status, pages_text, refused_text}
use Rattle.legal_session.specs.AbstractStandby.{AbstractStandby, IsLegal, Step, World, life_begins, log_origin, position_of}
use Rattle.legal_session.specs.GivenRows.{SayFrom, ends_scan, is_last_page, page_reply, pages_in}
use Rattle.legal_session.specs.WholeScans.{joined}

-- replies to the readings of a scan of the table with this name, which was opened where the standby stands so, are the
-- blocks of the rows that were committed there, in order of place, one after the other from the first on. None of them
-- cancels the scan
pub record GaveBlocks (w : World) (s : AbstractStandby) (name : List ℕ) (replies : List Reply) : Type 0 where
  pub table : ℕ
  pub named : number_named w.tables name ≡ Some table
  pub rows : List Version
  pub are_rows :
      IsRows (multixacts s.life) (committed_in (log_origin w) s.life)
      (versions (log_origin w) (file_of w.tables table) s.life) rows
  pub says :
      SayFrom (page_reply w table (block_count (log_origin w) (file_of w.tables table) s.life) rows 1) None 0 replies

-- the text of the opening there, which is the first of the standby's life, and of these replies
abbrev pub scan_text : AbstractStandby → List Reply → List ℕ
scan_text s replies = reply_text (Opened 1 (position_of s)) ++ pages_text replies

-- a scan wrote such replies up to its last page: put together they are the values of all those rows, up to the first that
-- is refused, and the exit status tells how they end
pub record GaveAll (w : World) (s : AbstractStandby) (name text : List ℕ) (status : ℕ) : Type 0 where
  pub replies : List Reply
  pub gave : GaveBlocks w s name replies
  pub ends : list_any is_last_page replies ≡ true
  pub whole : joined (pages_in replies) ≡ rows_of_versions (columns_of w.tables gave.table) gave.rows
  pub says : text ≡ scan_text s replies
  pub is_status : status ≡ end_status (joined (pages_in replies)).end

-- how a scan of the table with this name came out, where the standby stood so at its log's end: a record was refused there;
-- no scan was opened, and one line says why; or it was, and all rows were given. So with exit status 0 all were
pub data CameOut (w : World) (s : AbstractStandby) (name text : List ℕ) (status : ℕ) : Type 0 where
  LogRefused : (what : Refusal) → text ≡ refused_text (position_of s) what → status ≡ 5 → CameOut w s name text status
  NotOpened :
      (reply : Reply) → Step w (Open name) s reply s → ((id at : ℕ) → reply ≢ Opened id at) → text ≡ reply_text reply
      → status ≡ 1 → CameOut w s name text status
  AllGiven : GaveAll w s name text status → CameOut w s name text status

-- so it is over a legal log of every scan by a standby whose life begins at a base backup's redo position
abbrev pub ScanAtEndGivesRows : Type 0
ScanAtEndGivesRows =
    (w : World) (redo : Lsn) (text : List ℕ) → 0 < w.told.segsize → TellsBytes w.told → schema.Answers text (Ok w.tables)
    → IsLegal w redo.0
    → (name shown : List ℕ) (status : ℕ) (scan : IsScan (Step w) (life_begins redo) name shown status)
    → CameOut w scan.ended name shown status

-- and where such a scan was cut off: what it wrote is the line of its opening and the first of the blocks, none the last page
abbrev pub FrontAtEndGivesRows : Type 0
FrontAtEndGivesRows =
    (w : World) (redo : Lsn) (text : List ℕ) → 0 < w.told.segsize → TellsBytes w.told → schema.Answers text (Ok w.tables)
    → IsLegal w redo.0
    → (name shown : List ℕ) (front : ScansFirst (Step w) (life_begins redo) name shown)
    → (replies : List Reply) × GaveBlocks w front.ended name replies × (list_any ends_scan replies ≡ false)
    × (shown ≡ scan_text front.ended replies)
