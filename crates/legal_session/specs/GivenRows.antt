-- What the replies of a session give of a scan that it opens.
use Rattle.std.specs.Prelude.{◌≡◌, ℕ, suc, ◌+◌, ◌<◌, ◌==◌, Bool, true, false, not, ◌&&◌, nat_lt, List, [], ◌∷◌, ◌++◌, filter, length, Option, None, Some, Ok, if◌then◌else◌}
use Rattle.std.specs.List.{flat_map, list_any}
use Rattle.pg_types.specs.declared.names.Lsn.{Lsn}
use Rattle.typed_records.specs.declared.types.Rec.{Rec}
use Rattle.recovery_conflict.specs.declared.locks.Cause.{Cause}
use Rattle.recovery_conflict.specs.Causes.{cause_of}
use Rattle.record_numbers.specs.Bytes.{TellsBytes}
use Rattle.row_model.specs.Versions.{Version}
use Rattle.row_model.specs.RowSteps.{block_count, versions}
use Rattle.row_model.specs.Rows.{IsRows}
use Rattle.row_model.specs.Origins.{committed_in}
use Rattle.row_model.specs.Multixacts.{multixacts}
use Rattle.row_pages.specs.Pages.{is_in_block, rows_of_versions}
use Rattle.seq_scan.specs.BlockRows.{BlockRows}
use Rattle.session_text.specs.Requests as request
use Rattle.session_text.specs.Requests.{Request}
use Rattle.table_schema.specs.Reading as schema
use Rattle.table_schema.specs.Tables.{columns_of, file_of, number_named, table_with}
use Rattle.standby_core.specs.Conflicts.{first_cause, oid_of}
use Rattle.standby_core.specs.Scans.{is_whole}
use Rattle.session_model.specs.Events.{Reply, Opened, Page, Closed, Cancelled}
use Rattle.session_model.specs.Answers.{Answer, Answers, NotUnderstood, Replied, Replayed, Talks}
use Rattle.legal_session.specs.AbstractStandby.{AbstractScan, AbstractStandby, IsLeastLive, IsLegal, Step, World, life_begins, log_origin, position_of, scan_in}
use Rattle.legal_session.specs.WholeScans.{joined}

-- what a reply says of the scan with this id: a page of it, what cancelled it, or that it was closed
abbrev pub said_by : ℕ → Reply → List Reply
said_by id (Page other table block more page) = if other == id then Page other table block more page ∷ [] else []
said_by id (Cancelled other cause) = if other == id then Cancelled other cause ∷ [] else []
said_by id (Closed other) = if other == id then Closed other ∷ [] else []
said_by id reply = []

abbrev pub said_of : ℕ → Answer → List Reply
said_of id (Replied reply) = said_by id reply
said_of id NotUnderstood = []
said_of id (Replayed count last) = []

-- all that the answers of a session say of it
unfoldable pub said_in : ℕ → List Answer → List Reply
said_in id answers = flat_map (said_of id) answers

-- the pages among replies
abbrev pub page_in : Reply → List BlockRows
page_in (Page id table block more page) = page ∷ []
page_in reply = []

unfoldable pub pages_in : List Reply → List BlockRows
pages_in replies = flat_map page_in replies

-- a reply gives the last page of a scan: there are no more, or a row of it is refused
abbrev pub is_last_page : Reply → Bool
is_last_page (Page id table block more page) = not (more && is_whole page.end)
is_last_page reply = false

-- it ends a scan: by its last page, or since it was cancelled or closed
abbrev pub ends_scan : Reply → Bool
ends_scan (Cancelled id cause) = true
ends_scan (Closed id) = true
ends_scan reply = is_last_page reply

-- the reply that gives a block of a scan, where its table had so many blocks and these rows: the values of those of the
-- block, in order of place, and whether there is a further block
abbrev pub page_reply : World → (table count : ℕ) → List Version → (id block : ℕ) → Reply
page_reply w table count rows id block =
    Page id (table_with w.tables table) block (nat_lt (block + 1) count)
    (rows_of_versions (columns_of w.tables table) (filter (is_in_block block) rows))

-- what a reply says is so: the next page is this one, and a cancellation names this cause
abbrev pub SaysSo : Reply → Option Cause → Reply → Type 0
SaysSo next cause (Page id table block more page) = Page id table block more page ≡ next
SaysSo next cause (Cancelled id named) = cause ≡ Some named
SaysSo next cause (Closed id) = Unit {0}
SaysSo next cause reply = ⊥

-- others follow a reply that does not end the scan, and none one that does
abbrev pub FollowUnless : Bool → Type 0 → List Reply → Type 0
FollowUnless false Others replies = Others
FollowUnless true Others replies = replies ≡ []

-- replies give the pages of a scan from this block on, one after the other, up to one that ends it
abbrev pub SayFrom : (ℕ → Reply) → Option Cause → ℕ → List Reply → Type 0
SayFrom page cause block [] = Unit {0}
SayFrom page cause block (reply ∷ replies) =
    SaysSo (page block) cause reply × FollowUnless (ends_scan reply) (SayFrom page cause (suc block) replies) replies

-- what the first of these records that conflicts with a scan of the table takes away, the newest record first
unfoldable pub cause_in : World → ℕ → ℕ → List Rec → Option Cause
cause_in w table xmin [] = None
cause_in w table xmin (rec ∷ older) =
    first_cause (cause_in w table xmin older) (cause_of rec w.tables.database (oid_of w.tables table) xmin)

-- an open scan that was opened over a table where the standby stood so, after further records: with so many blocks given,
-- and cancelled by the first of these records that conflicts with it
abbrev pub scan_after : World → (table id xmin : ℕ) → (opened later : List Rec) → ℕ → AbstractScan
scan_after w table id xmin opened later given = record {
  id = id;
  table = table;
  opened = opened;
  xmin = xmin;
  given = given;
  cause = cause_in w table xmin later;
}

-- what answers give of the scan with this id that was opened over a table where the standby stood so, and now stands so:
-- the blocks of the rows that were committed then, in order of place, one after the other from the first on; where the last
-- page was given, all of them up to the first that is refused; and where it was cancelled, the first record since that
-- conflicts with it. As long as none of this ended it, it is open, and then the next page is given exactly where no record
-- since conflicts with it
pub record GaveRows (w : World) (opened : AbstractStandby) (table id : ℕ) (answers : List Answer) (now : AbstractStandby) : Type 0 where
  pub rows : List Version
  pub are_rows :
      IsRows (multixacts opened.life) (committed_in (log_origin w) opened.life)
      (versions (log_origin w) (file_of w.tables table) opened.life) rows
  pub xmin : ℕ
  pub least : IsLeastLive w opened xmin
  pub later : List Rec
  pub since : now.life ≡ later ++ opened.life
  pub says :
      SayFrom (page_reply w table (block_count (log_origin w) (file_of w.tables table) opened.life) rows id)
      (cause_in w table xmin later) 0 (said_in id answers)
  pub whole :
      list_any is_last_page (said_in id answers) ≡ true
      → joined (pages_in (said_in id answers)) ≡ rows_of_versions (columns_of w.tables table) rows
  pub goes_on :
      list_any ends_scan (said_in id answers) ≡ false
      → scan_in id now.scans ≡ Some (scan_after w table id xmin opened.life later (length (said_in id answers)))

-- over a legal log, in every session whose life begins at a base backup's redo position: what is given of each scan that is
-- opened, at the position that the answer tells, with an id of which no answer before said anything
abbrev pub ScansGiveRows : Type 0
ScansGiveRows =
    (w : World) (redo : Lsn) (text : List ℕ) → 0 < w.told.segsize → TellsBytes w.told → schema.Answers text (Ok w.tables)
    → IsLegal w redo.0
    → (before after : List Request) (earlier answers : List Answer) (name : List ℕ) (id at : ℕ) (s mid now : AbstractStandby)
    → Talks (Step w) before (life_begins redo) earlier s
    → Answers (Step w) (request.Opens name) s (Replied (Opened id at)) mid
    → Talks (Step w) after mid answers now
    → (table : ℕ) × (number_named w.tables name ≡ Some table) × (at ≡ position_of s) × GaveRows w s table id answers now
    × (said_in id earlier ≡ [])
