-- A scan of a table: a standby replays its log to the end, opens a scan and reads it page by page, for any rule of its
-- single steps. The replies to the opening and to each reading are written one after the other.
use Rattle.std.specs.Prelude.{◌≡◌, ◌⊎◌, ℕ, Bool, true, false, ◌&&◌, List, [], ◌∷◌, ◌++◌, codes}
use Rattle.std.specs.List.{flat_map}
use Rattle.pg_types.specs.Names.{lsn_text}
use Rattle.wal_reader.specs.declared.types.EndWhy.{EndWhy}
use Rattle.seq_scan.specs.BlockRows.{BlockEnd, Whole, ToastedAt, BadAt, UnknownAt, NoPage}
use Rattle.standby_core.specs.declared.types.Refusal.{Refusal}
use Rattle.standby_core.specs.Scans.{is_whole}
use Rattle.session_model.specs.Events.{ReplayOne, Open, Next, Reply, Stands, Applied, AtEnd, Refused, Opened, NoTable, TooMany, NotAdmitted, Page, Closed, NoScan, Gone, Locked, Cancelled, is_applied}
use Rattle.session_model.specs.Answers.{Applies, Steps}
use Rattle.session_model.specs.Texts.{line, refusal_text, reply_text}

-- records are applied up to the log's end, or to one that is refused: this is the reply to the replay that applies none
pub record ReplaysAll {S : Type 0} (step : Steps S) (s : S) (last : Reply) (now : S) : Type 0 where
  pub count : ℕ
  pub mid : S
  pub applies : Applies step count s mid
  pub replays : step ReplayOne mid last now
  pub stops : is_applied last ≡ false

-- a whole page, behind which there are more
abbrev pub is_more : Reply → Bool
is_more (Page id table block more page) = more && is_whole page.end
is_more (Stands status) = false
is_more (Applied at) = false
is_more (AtEnd at why) = false
is_more (Refused at what) = false
is_more (Opened id at) = false
is_more NoTable = false
is_more TooMany = false
is_more (NotAdmitted status) = false
is_more (Closed id) = false
is_more NoScan = false
is_more (Gone lsn) = false
is_more (Locked lsn xid) = false
is_more (Cancelled id cause) = false

-- the exit status of a scan by how its last page ends: a row that is refused is no failure of the log, damage is
abbrev pub end_status : BlockEnd → ℕ
end_status Whole = 0
end_status (ToastedAt line_ column) = 1
end_status (BadAt line_ column) = 1
end_status (UnknownAt line_ id) = 5
end_status NoPage = 5

abbrev pub page_status : Reply → ℕ
page_status (Page id table block more page) = end_status page.end
page_status (Stands status) = 1
page_status (Applied at) = 1
page_status (AtEnd at why) = 1
page_status (Refused at what) = 1
page_status (Opened id at) = 1
page_status NoTable = 1
page_status TooMany = 1
page_status (NotAdmitted status) = 1
page_status (Closed id) = 1
page_status NoScan = 1
page_status (Gone lsn) = 1
page_status (Locked lsn xid) = 1
page_status (Cancelled id cause) = 1

-- pages are read one after the other, behind each of which there are more
unfoldable pub ReadsSome : {S : Type 0} → Steps S → ℕ → S → List Reply → S → Type 0
ReadsSome step id s [] now = now ≡ s
ReadsSome {S} step id s (page ∷ pages) now =
    (mid : S) × step (Next id) s page mid × (is_more page ≡ true) × ReadsSome step id mid pages now

-- the text of pages
abbrev pub pages_text : List Reply → List ℕ
pages_text pages = flat_map reply_text pages

-- the pages of the open scan with this id are read up to the one behind which there are no more
pub record ReadsOut {S : Type 0} (step : Steps S) (id : ℕ) (s : S) (text : List ℕ) (status : ℕ) : Type 0 where
  pub pages : List Reply
  pub mid : S
  pub reads : ReadsSome step id s pages mid
  pub last : Reply
  pub now : S
  pub ends : step (Next id) mid last now
  pub no_more : is_more last ≡ false
  pub says : text ≡ pages_text pages ++ reply_text last
  pub is_status : status ≡ page_status last

-- by the reply to the opening: the pages follow it, or no scan was opened
abbrev pub ReadsOpened : {S : Type 0} → Steps S → Reply → S → (text : List ℕ) → (status : ℕ) → Type 0
ReadsOpened step (Opened id at) s text status =
    (rows : List ℕ) × ReadsOut step id s rows status × (text ≡ reply_text (Opened id at) ++ rows)
ReadsOpened step reply s text status = (text ≡ reply_text reply) × (status ≡ 1)

-- a standby at its log's end scans the table with this name
pub record ScansTable {S : Type 0} (step : Steps S) (s : S) (name text : List ℕ) (status : ℕ) : Type 0 where
  pub reply : Reply
  pub opened : S
  pub opens : step (Open name) s reply opened
  pub reads : ReadsOpened step reply opened text status

-- the line of a record that is refused
abbrev pub refused_text : ℕ → Refusal → List ℕ
refused_text at what = line (codes "fault log " ++ lsn_text at ++ codes " " ++ refusal_text what)

-- by the reply to the last replay: the log ends there, or a record is refused
abbrev pub ScansBy : {S : Type 0} → Steps S → Reply → S → (name text : List ℕ) → (status : ℕ) → Type 0
ScansBy step (AtEnd at why) s name text status = ScansTable step s name text status
ScansBy step (Refused at what) s name text status = (text ≡ refused_text at what) × (status ≡ 5)
ScansBy step reply s name text status = ⊥

-- the table with this name is scanned at the log's end: with this text, and this exit status
pub record IsScan {S : Type 0} (step : Steps S) (s : S) (name text : List ℕ) (status : ℕ) : Type 0 where
  pub last : Reply
  pub ended : S
  pub replays : ReplaysAll step s last ended
  pub scans : ScansBy step last ended name text status

-- a standby at its log's end opens a scan, and reads the first of its pages
pub record ReadsFirst {S : Type 0} (step : Steps S) (s : S) (name text : List ℕ) : Type 0 where
  pub id : ℕ
  pub at : ℕ
  pub opened : S
  pub opens : step (Open name) s (Opened id at) opened
  pub pages : List Reply
  pub now : S
  pub reads : ReadsSome step id opened pages now
  pub says : text ≡ reply_text (Opened id at) ++ pages_text pages

-- the log is replayed to its end before
pub record ScansFirst {S : Type 0} (step : Steps S) (s : S) (name text : List ℕ) : Type 0 where
  pub at : ℕ
  pub why : EndWhy
  pub ended : S
  pub replays : ReplaysAll step s (AtEnd at why) ended
  pub reads : ReadsFirst step ended name text

-- the front of a scan: nothing, or its opening and the first of its pages
abbrev pub IsFrontOfScan : {S : Type 0} → Steps S → S → (name text : List ℕ) → Type 0
IsFrontOfScan step s name text = (text ≡ []) ⊎ ScansFirst step s name text
