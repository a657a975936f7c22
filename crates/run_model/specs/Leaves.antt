-- What a run leaves, by its exit status: what it wrote, and whose fault ended it. A scan and a session are told for any rule
-- of single steps.
use Rattle.std.specs.Prelude.{◌≡◌, ◌⊎◌, ℕ, List, [], ◌++◌, Option, IfSome, codes}
use Rattle.outside.specs.Sink.{Appends, AppendsPrefix}
use Rattle.table_schema.specs.Description.{Description}
use Rattle.session_model.specs.Answers.{Steps}
use Rattle.session_model.specs.Scans.{IsFrontOfScan, IsScan}
use Rattle.session_model.specs.Sessions.{IsFrontOfSession, IsSession, IsTakenSession}
use Rattle.session_model.specs.Texts.{line}
use Rattle.run_model.specs.Starts.{Rejection, Start, Rejects, Scans, Holds, rejection_status, rejection_text}

-- the exit statuses of faults: the archive's or the base folder's, the source's or the sink's, and want of memory
abbrev pub archive_status : ℕ
archive_status = 7

abbrev pub stream_status : ℕ
stream_status = 9

abbrev pub memory_status : ℕ
memory_status = 12

-- the status is that of a rejection
abbrev pub IsRejected : ℕ → Type 0
IsRejected status = (status ≡ 2) ⊎ ((status ≡ 3) ⊎ (status ≡ 4))

-- the status is that of a run that was not ended by a fault
abbrev pub IsAnswered : ℕ → Type 0
IsAnswered status = (status ≡ 0) ⊎ ((status ≡ 1) ⊎ ((status ≡ 5) ⊎ IsRejected status))

-- the status is that of a fault
abbrev pub IsFault : ℕ → Type 0
IsFault status = (status ≡ archive_status) ⊎ ((status ≡ stream_status) ⊎ (status ≡ memory_status))

-- a text was written whole, or where the sink was in trouble a prefix of it
abbrev pub AppendsUnless : Type 0 → Option (List ℕ) → Option (List ℕ) → List ℕ → Type 0
AppendsUnless trouble before now text = (Appends before now text) ⊎ (trouble × AppendsPrefix before now text)

-- what the outside was seen to do in a run: the sink's faults rose; the source's did; one of the sink's writes failed or
-- found no memory; and what the sink had taken before it and has taken now, where it tells that
pub record Outside : Type 1 where
  pub sink_rose : Type 0
  pub source_rose : Type 0
  pub trouble : Type 0
  pub before : Option (List ℕ)
  pub now : Option (List ℕ)

-- a text was written of which this holds
abbrev pub Wrote : Outside → (List ℕ → Type 0) → Type 0
Wrote outside P = (text : List ℕ) × P text × Appends outside.before outside.now text

-- and then the line of a fault
abbrev pub WroteFault : Outside → List ℕ → (List ℕ → Type 0) → Type 0
WroteFault outside fault P = (text : List ℕ) × P text × AppendsUnless outside.trouble outside.before outside.now (text ++ line fault)

-- the sink failed, and took a prefix of a text of which this holds
abbrev pub WrotePrefix : Outside → (List ℕ → Type 0) → Type 0
WrotePrefix outside P = outside.sink_rose × ((text : List ℕ) × P text × AppendsPrefix outside.before outside.now text)

-- a rejection is told in one line
pub record RejectionLeaves (rejection : Rejection) (status : ℕ) (outside : Outside) : Type 0 where
  pub statuses : (status ≡ rejection_status rejection) ⊎ IsFault status
  pub done : IsAnswered status → Wrote outside (λ text. text ≡ rejection_text rejection)
  pub archive : status ≡ archive_status → WroteFault outside (codes "fault archive") (λ text. text ≡ [])
  pub memory : status ≡ memory_status → WroteFault outside (codes "fault memory") (λ text. text ≡ [])
  pub sink : status ≡ stream_status → WrotePrefix outside (λ text. text ≡ rejection_text rejection)

-- a scan: its whole text; or where the archive failed nothing of it, where memory ran out what was finished before, and
-- then the line of the fault; or where the sink failed a prefix of what was written
pub record ScanLeaves {S : Type 0} (step : Steps S) (s : S) (name : List ℕ) (status : ℕ) (outside : Outside) : Type 0 where
  pub done : IsAnswered status → Wrote outside (λ text. IsScan step s name text status)
  pub archive : status ≡ archive_status → WroteFault outside (codes "fault archive") (λ text. text ≡ [])
  pub memory : status ≡ memory_status → WroteFault outside (codes "fault memory") (IsFrontOfScan step s name)
  pub sink : status ≡ stream_status → WrotePrefix outside (λ text. IsFrontOfScan step s name text ⊎ ((end : ℕ) × IsScan step s name text end))

-- the answers to what was taken of the source, which then failed
abbrev pub IsTakenOf : {S : Type 0} → Steps S → S → List ℕ → List ℕ → Type 0
IsTakenOf step s source text = (taken rest : List ℕ) × (source ≡ taken ++ rest) × IsTakenSession step s taken text

-- a session: the answers to all lines of its source; or those that were finished before a fault, and then its line, but for a
-- fault of the sink, which took a prefix of them
pub record SessionLeaves {S : Type 0} (step : Steps S) (s : S) (source : List ℕ) (status : ℕ) (outside : Outside) : Type 0 where
  pub done : IsAnswered status → Wrote outside (λ text. IsSession step s source text status)
  pub archive : status ≡ archive_status → WroteFault outside (codes "fault archive") (IsFrontOfSession step s source)
  pub memory : status ≡ memory_status → WroteFault outside (codes "fault memory") (IsFrontOfSession step s source)
  pub stream :
      status ≡ stream_status → WrotePrefix outside (IsFrontOfSession step s source)
      ⊎ (outside.source_rose × WroteFault outside (codes "fault source") (IsTakenOf step s source))

-- a run, by how it begins; of one that is rejected nothing is said here. The source is told or not
abbrev pub RunLeaves : {S : Type 0} → (Description → Steps S) → (Description → S) → Option (List ℕ) → Start → ℕ → Outside → Type 0
RunLeaves step begins source (Rejects rejection) status outside = Unit {0}
RunLeaves step begins source (Scans tables name) status outside = ScanLeaves (step tables) (begins tables) name status outside
RunLeaves step begins source (Holds tables) status outside =
    IfSome source (λ lines. SessionLeaves (step tables) (begins tables) lines status outside)
