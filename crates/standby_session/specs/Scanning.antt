-- The parts of a scan: replay to the log's end, its opening, and each of its pages.
use Rattle.std.specs.Prelude.{◌≡◌, ◌⊎◌, ℕ, ◌-◌, Bool, true, false, ◌&&◌, List, [], ◌++◌, Option, None, Some, Result, Ok, Err}
use Rattle.pg_types.specs.declared.names.Lsn.{Lsn}
use Rattle.outside.specs.Sink.{Appends, AppendsNothing, AppendsPrefix}
use Rattle.wal_reader.specs.declared.types.EndWhy.{EndWhy}
use Rattle.seq_scan.specs.BlockRows.{BlockEnd}
use Rattle.seq_scan.specs.declared.scan.PageEnd.{PageEnd}
use Rattle.seq_scan.specs.Scans.{end_at}
use Rattle.standby_core.specs.declared.types.NodeFault.{NodeFault}
use Rattle.standby_core.specs.declared.types.Refusal.{Refusal}
use Rattle.standby_core.specs.declared.scans.NodeScan.{NodeScan}
use Rattle.standby_core.specs.declared.scans.Opened.{Opened as OpenedBy}
use Rattle.standby_core.specs.declared.scans.PrintedPage.{PrintedPage}
use Rattle.standby_core.specs.declared.scans.PrintedPage.TheVariants as printed
use Rattle.standby_core.specs.Scans.{is_whole, scan_with}
use Rattle.standby_core.specs.Standby.{Standby}
use Rattle.session_model.specs.Answers.{Steps}
use Rattle.session_model.specs.Events.{Reply, AtEnd, Opened, Refused}
use Rattle.session_model.specs.NodeSteps.{NodeStep, Reads, bare, opening_reply}
use Rattle.session_model.specs.Scans.{ReadsFirst, ReadsOpened, ReadsOut, ReadsSome, ReplaysAll, ScansTable, end_status, is_more, page_status, pages_text, refused_text}
use Rattle.session_model.specs.Texts.{reply_text}
use Rattle.standby_session.specs.Answering.{WhereLogTold}
use Rattle.standby_session.specs.declared.fault.SessionFault.{SessionFault}
use Rattle.standby_session.specs.declared.fault.SessionFault.TheVariants as fault

-- a text was written whole; a prefix of it where the sink failed, and nothing for want of memory
abbrev pub WroteText : {T : Type 0} → Option (List ℕ) → Option (List ℕ) → List ℕ → Result T SessionFault → Type 0
WroteText before now text (Ok done) = Appends before now text
WroteText before now text (Err fault.Sink) = AppendsPrefix before now text
WroteText before now text (Err fault.Memory) = AppendsNothing before now
WroteText before now text (Err fault.Archive) = ⊥
WroteText before now text (Err fault.Source) = ⊥

-- what was written of a text, by what ended the writing: the whole, with its status; nothing where the archive failed; its
-- front for want of memory; a prefix of what was written where the sink failed. No source is read
abbrev pub Wrote : (IsWhole : List ℕ → ℕ → Type 0) → (IsFront : List ℕ → Type 0) → (before now : Option (List ℕ)) → Result ℕ SessionFault → Type 0
Wrote IsWhole IsFront before now (Ok status) = (text : List ℕ) × IsWhole text status × Appends before now text
Wrote IsWhole IsFront before now (Err fault.Archive) = Appends before now []
Wrote IsWhole IsFront before now (Err fault.Memory) = (text : List ℕ) × IsFront text × Appends before now text
Wrote IsWhole IsFront before now (Err fault.Sink) =
    (text : List ℕ) × (IsFront text ⊎ ((status : ℕ) × IsWhole text status)) × AppendsPrefix before now text
Wrote IsWhole IsFront before now (Err fault.Source) = ⊥

-- the log is replayed to its end, or to a record that is refused there
abbrev pub ReplaysTo : Steps Standby → Option (Lsn × Refusal) → Standby → Standby → Type 0
ReplaysTo step None old new = (at : ℕ) × (why : EndWhy) × ReplaysAll step old (AtEnd at why) new
ReplaysTo step (Some refused) old new = ReplaysAll step old (Refused refused.0.0 refused.1) new

abbrev pub ReplaysToTold : Option (ℕ → Option ℕ) → Standby → Standby → Result (Option (Lsn × Refusal)) NodeFault → Type 0
ReplaysToTold bytes old new (Ok refused) = WhereLogTold bytes old new (λ byte. ReplaysTo (NodeStep byte) refused (bare old) (bare new))
ReplaysToTold bytes old new (Err fault) = Unit {0}

-- the line of a record that is refused
abbrev pub WroteRefused : ℕ → Refusal → Option (List ℕ) → Option (List ℕ) → Result ℕ SessionFault → Type 0
WroteRefused at what before now result =
    Wrote (λ text status. (text ≡ refused_text at what) × (status ≡ 5)) (λ text. text ≡ []) before now result

-- how many blocks of a scan are left
abbrev pub left_in : Option NodeScan → ℕ
left_in None = 0
left_in (Some one) = one.scan.blocks - one.scan.given

-- of the open scan with this id
abbrev pub left_of : ℕ → Standby → ℕ
left_of id node = left_in (scan_with id node.scans)

-- the status of the scan, where a page that ends so is its last one
abbrev pub IsLastPage : Option ℕ → Bool → BlockEnd → Type 0
IsLastPage None more last = (more && is_whole last) ≡ true
IsLastPage (Some status) more last = ((more && is_whole last) ≡ false) × (status ≡ end_status last)

-- whatever block it is of
abbrev pub IsLastAt : Option ℕ → PageEnd → Type 0
IsLastAt status end = (block : ℕ) (more : Bool) (last : BlockEnd) → end ≡ end_at block more last → IsLastPage status more last

-- a scan that was cancelled has no more pages
abbrev pub IsLastPrinted : Option ℕ → PrintedPage → Type 0
IsLastPrinted status (printed.Given table end) = IsLastAt status end
IsLastPrinted status (printed.Cancelled cause) = status ≡ Some 1

abbrev pub IsLast : Option ℕ → Reply → Type 0
IsLast None reply = is_more reply ≡ true
IsLast (Some status) reply = (is_more reply ≡ false) × (status ≡ page_status reply)

-- the next page of the scan with this id, whose text stands behind what stood there
pub record PushesPage (id : ℕ) (scan : Option NodeScan) (old new : Standby) (before now : List ℕ) (last : Option ℕ) : Type 0 where
  pub reply : Reply
  pub reads : Reads id scan (bare old) reply (bare new)
  pub says : now ≡ before ++ reply_text reply
  pub is_last : IsLast last reply

-- the next page was written
pub record WritesPage (id : ℕ) (scan : Option NodeScan) (old new : Standby) (before now : Option (List ℕ)) (last : Option ℕ) : Type 0 where
  pub reply : Reply
  pub reads : Reads id scan (bare old) reply (bare new)
  pub writes : Appends before now (reply_text reply)
  pub is_last : IsLast last reply

-- or a prefix of it
pub record WritesPagePrefix (id : ℕ) (scan : Option NodeScan) (old new : Standby) (before now : Option (List ℕ)) : Type 0 where
  pub reply : Reply
  pub reads : Reads id scan (bare old) reply (bare new)
  pub writes : AppendsPrefix before now (reply_text reply)

abbrev pub PageLeaves : ℕ → Option NodeScan → Standby → Standby → Option (List ℕ) → Option (List ℕ) → Result (Option ℕ) SessionFault → Type 0
PageLeaves id scan old new before now (Ok last) = WritesPage id scan old new before now last
PageLeaves id scan old new before now (Err fault.Sink) = WritesPagePrefix id scan old new before now
PageLeaves id scan old new before now (Err fault.Memory) = AppendsNothing before now
PageLeaves id scan old new before now (Err fault.Archive) = ⊥
PageLeaves id scan old new before now (Err fault.Source) = ⊥

-- pages were read, and this is their text
pub record ReadsPages {S : Type 0} (step : Steps S) (id : ℕ) (s now : S) (text : List ℕ) : Type 0 where
  pub pages : List Reply
  pub reads : ReadsSome step id s pages now
  pub says : text ≡ pages_text pages

abbrev pub ReadsFirstPages : {S : Type 0} → Steps S → ℕ → S → List ℕ → Type 0
ReadsFirstPages {S} step id s text = (now : S) × ReadsPages step id s now text

-- pages were written
pub record WrotePages (byte : ℕ → Option ℕ) (id : ℕ) (old new : Standby) (before now : Option (List ℕ)) : Type 0 where
  pub text : List ℕ
  pub reads : ReadsPages (NodeStep byte) id (bare old) (bare new) text
  pub writes : Appends before now text

-- the pages of the open scan with this id. The log is not read for them
abbrev pub PagesLeave : ℕ → Standby → Option (List ℕ) → Option (List ℕ) → Result ℕ SessionFault → Type 0
PagesLeave id node before now result =
    (byte : ℕ → Option ℕ)
    → Wrote (ReadsOut (NodeStep byte) id (bare node)) (ReadsFirstPages (NodeStep byte) id (bare node)) before now result

-- what follows the reply to an opening
abbrev pub FrontBehind : {S : Type 0} → Steps S → Reply → S → List ℕ → Type 0
FrontBehind step (Opened id at) s text = ReadsFirstPages step id s text
FrontBehind step reply s text = ⊥

abbrev pub OpenedLeaves : OpenedBy → Standby → Option (List ℕ) → Option (List ℕ) → Result ℕ SessionFault → Type 0
OpenedLeaves opened node before now result =
    (byte : ℕ → Option ℕ)
    → Wrote (λ text status. ReadsOpened (NodeStep byte) (opening_reply opened) (bare node) (reply_text (opening_reply opened) ++ text) status)
    (FrontBehind (NodeStep byte) (opening_reply opened) (bare node)) before now result

-- a scan of a node at the log's end
abbrev pub FrontOfTable : {S : Type 0} → Steps S → S → (name text : List ℕ) → Type 0
FrontOfTable step s name text = (text ≡ []) ⊎ ReadsFirst step s name text

abbrev pub TableLeaves : Standby → List ℕ → Option (List ℕ) → Option (List ℕ) → Result ℕ SessionFault → Type 0
TableLeaves node name before now result =
    (byte : ℕ → Option ℕ)
    → Wrote (ScansTable (NodeStep byte) (bare node) name) (FrontOfTable (NodeStep byte) (bare node) name) before now result
