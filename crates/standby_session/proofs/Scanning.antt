-- A scan: replay to the log's end, its opening, and its pages.
use Rattle.std.proofs.Common.{◌≡◌, ◌⊎◌, ℕ, ◌+◌, List, [], ◌++◌, Option, None, Some, Result, Ok, Err, inl, inr, refl, ap, sym, ◌∙◌, subst, append-nil}
use Rattle.pg_types.specs.declared.names.Lsn.{Lsn}
use Rattle.outside.specs.Sink.{Appends, AppendsPrefix}
use Rattle.wal_reader.specs.declared.types.EndWhy.{EndWhy}
use Rattle.standby_core.specs.declared.types.Refusal.{Refusal}
use Rattle.standby_core.specs.declared.types.Replayed.TheVariants as replayed
use Rattle.standby_core.specs.declared.scans.Opened.{Opened as OpenedBy}
use Rattle.standby_core.specs.declared.scans.Opened.TheVariants as opened
use Rattle.standby_core.specs.Standby.{Standby}
use Rattle.standby_core.specs.Replay.{StaysUnlessApplied}
use Rattle.standby_core.specs.Scans.{Opens}
use Rattle.standby_core.specs.View.{ReplaysTold}
use Rattle.session_model.specs.Answers.{Steps}
use Rattle.session_model.specs.Events.{Reply, Open, AtEnd, Opened, Refused}
use Rattle.session_model.specs.NodeSteps.{NodeStep, bare, opening_reply}
use Rattle.session_model.specs.Scans.{IsFrontOfScan, IsScan, ReadsOpened, ReadsOut, ReplaysAll, ScansTable, refused_text}
use Rattle.session_model.specs.Texts.{reply_text}
use Rattle.standby_session.specs.Scanned.{ScanLeft, ScanLeftTold}
use Rattle.standby_session.specs.Scanning.{FrontBehind, FrontOfTable, OpenedLeaves, PagesLeave, ReadsFirstPages, ReplaysToTold, TableLeaves, WroteRefused, WroteText, Wrote}
use Rattle.standby_session.specs.declared.fault.SessionFault.{SessionFault}
use Rattle.standby_session.specs.declared.fault.SessionFault.TheVariants as fault
use Rattle.standby_session.proofs.Appending.{appends_both, appends_prefix, nothing_appended, nothing_more}
use Rattle.standby_session.proofs.Paging.{reads_none}
use Rattle.standby_session.proofs.Steps.{AppliedTold, applied_more, applied_none, one_step, opens_bare}

-- what was written behind a text that was written whole
pub wrote_behind :
    (Whole Longer : List ℕ → ℕ → Type 0) (Front Further : List ℕ → Type 0) (before between now : Option (List ℕ)) (head : List ℕ)
    (result : Result ℕ SessionFault) → Appends before between head → (result ≡ Err fault.Archive → ⊥)
    → ((text : List ℕ) (status : ℕ) → Whole text status → Longer (head ++ text) status)
    → ((text : List ℕ) → Front text → Further (head ++ text)) → Wrote Whole Front between now result
    → Wrote Longer Further before now result
wrote_behind Whole Longer Front Further before between now head (Ok status) wrote other whole front (text, is, more) =
    (head ++ text, whole text status is, appends_both before between now head text wrote more)
wrote_behind Whole Longer Front Further before between now head (Err fault.Archive) wrote other whole front p = absurd (other refl)
wrote_behind Whole Longer Front Further before between now head (Err fault.Memory) wrote other whole front (text, is, more) =
    (head ++ text, front text is, appends_both before between now head text wrote more)
wrote_behind Whole Longer Front Further before between now head (Err fault.Sink) wrote other whole front (text, is, more) =
    (head ++ text, part is, appends_prefix before between now head text wrote more)
  where
    part : (Front text ⊎ ((status : ℕ) × Whole text status)) → Further (head ++ text) ⊎ ((status : ℕ) × Longer (head ++ text) status)
    part (inl some) = inl (front text some)
    part (inr (status, all)) = inr (status, whole text status all)
wrote_behind Whole Longer Front Further before between now head (Err fault.Source) wrote other whole front p = p

-- what was written, in other words
pub wrote_as :
    (Whole Longer : List ℕ → ℕ → Type 0) (Front Further : List ℕ → Type 0) (before now : Option (List ℕ)) (result : Result ℕ SessionFault)
    → ((text : List ℕ) (status : ℕ) → Whole text status → Longer text status) → ((text : List ℕ) → Front text → Further text)
    → Wrote Whole Front before now result → Wrote Longer Further before now result
wrote_as Whole Longer Front Further before now (Ok status) whole front (text, is, more) = (text, whole text status is, more)
wrote_as Whole Longer Front Further before now (Err fault.Archive) whole front p = p
wrote_as Whole Longer Front Further before now (Err fault.Memory) whole front (text, is, more) = (text, front text is, more)
wrote_as Whole Longer Front Further before now (Err fault.Sink) whole front (text, is, more) = (text, part is, more)
  where
    part : (Front text ⊎ ((status : ℕ) × Whole text status)) → Further text ⊎ ((status : ℕ) × Longer text status)
    part (inl some) = inl (front text some)
    part (inr (status, all)) = inr (status, whole text status all)
wrote_as Whole Longer Front Further before now (Err fault.Source) whole front p = p

-- what follows the line of a scan that is open
pub opened_scan :
    (o : OpenedBy) (id : ℕ) (at : Lsn) (node : Standby) (before now : Option (List ℕ)) (result : Result ℕ SessionFault) → o ≡ opened.Scan id at
    → PagesLeave id node before now result → OpenedLeaves o node before now result
opened_scan o id at node before now result e p =
    subst (λ (x : OpenedBy). OpenedLeaves x node before now result) (sym e)
    (λ byte.
    wrote_as (ReadsOut (NodeStep byte) id (bare node))
    (λ text status. ReadsOpened (NodeStep byte) (Opened id at.0) (bare node) (reply_text (Opened id at.0) ++ text) status)
    (ReadsFirstPages (NodeStep byte) id (bare node)) (FrontBehind (NodeStep byte) (Opened id at.0) (bare node)) before now result
    (λ text status is. (text, is, refl)) (λ text is. is) (p byte))

-- nothing follows the line of one that is not
no_scan : (o : OpenedBy) → ((id : ℕ) (at : Lsn) → o ≡ opened.Scan id at → ⊥) → (node : Standby) (now : Option (List ℕ)) → OpenedLeaves o node now now (Ok 1)
no_scan (opened.Scan id at) other node now = absurd (other id at refl)
no_scan opened.NoTable other node now = λ byte. ([], (append-nil (reply_text (opening_reply opened.NoTable)), refl), nothing_appended now)
no_scan opened.TooMany other node now = λ byte. ([], (append-nil (reply_text (opening_reply opened.TooMany)), refl), nothing_appended now)
no_scan (opened.Gone lsn) other node now =
    λ byte. ([], (append-nil (reply_text (opening_reply (opened.Gone lsn))), refl), nothing_appended now)
no_scan (opened.Locked lsn xid) other node now =
    λ byte. ([], (append-nil (reply_text (opening_reply (opened.Locked lsn xid))), refl), nothing_appended now)
no_scan (opened.NotAdmitted status) other node now =
    λ byte. ([], (append-nil (reply_text (opening_reply (opened.NotAdmitted status))), refl), nothing_appended now)

pub opened_none :
    (o other : OpenedBy) (node : Standby) (now : Option (List ℕ)) → o ≡ other → ((id : ℕ) (at : Lsn) → other ≡ opened.Scan id at → ⊥)
    → OpenedLeaves o node now now (Ok 1)
opened_none o other node now e not_scan = no_scan o (λ id at is. not_scan id at (sym e ∙ is)) node now

-- a scan of a node at the log's end: nothing was written
pub table_short : (node : Standby) (name : List ℕ) (now : Option (List ℕ)) → TableLeaves node name now now (Err fault.Memory)
table_short node name now = λ byte. ([], inl refl, nothing_appended now)

module _ {S : Type 0} (step : Steps S) where
  -- behind the reply to its opening
  table_whole :
      (s now : S) (name text : List ℕ) (status : ℕ) (reply : Reply) → step (Open name) s reply now
      → ReadsOpened step reply now (reply_text reply ++ text) status → ScansTable step s name (reply_text reply ++ text) status
  table_whole s now name text status reply p q = record { reply = reply; opened = now; opens = p; reads = q }

  table_front :
      (s now : S) (name text : List ℕ) (reply : Reply) → step (Open name) s reply now → FrontBehind step reply now text
      → FrontOfTable step s name (reply_text reply ++ text)
  table_front s now name text (Opened id at) p (later, q) = inr (record {
    id = id;
    at = at;
    opened = now;
    opens = p;
    pages = q.pages;
    now = later;
    reads = q.reads;
    says = ap (λ (t : List ℕ). reply_text (Opened id at) ++ t) q.says;
  })
  table_front s now name text reply p q = absurd q

  -- the reply itself
  table_reply :
      (s now : S) (name : List ℕ) (reply : Reply) → step (Open name) s reply now
      → FrontOfTable step s name (reply_text reply) ⊎ ((status : ℕ) × ScansTable step s name (reply_text reply) status)
  table_reply s now name (Opened id at) p = inl (inr (record {
    id = id;
    at = at;
    opened = now;
    opens = p;
    pages = [];
    now = now;
    reads = reads_none step id now;
    says = sym (append-nil (reply_text (Opened id at)));
  }))
  table_reply s now name reply p = inr (1, record { reply = reply; opened = now; opens = p; reads = (refl, refl) })

opens_step :
    (byte : ℕ → Option ℕ) (name : List ℕ) (old new : Standby) (o : OpenedBy) → Opens name old o new
    → NodeStep byte (Open name) (bare old) (opening_reply o) (bare new)
opens_step byte name old new o p = (o, opens_bare name old new o p, refl)

-- the reply was not written whole
pub table_cut :
    (name : List ℕ) (old new : Standby) (o : OpenedBy) (text : List ℕ) (before now : Option (List ℕ)) (f : SessionFault) → Opens name old o new
    → text ≡ reply_text (opening_reply o) → WroteText {T = Unit {0}} before now text (Err f) → TableLeaves old name before now (Err f)
table_cut name old new o text before now fault.Archive p says wrote = absurd wrote
table_cut name old new o text before now fault.Source p says wrote = absurd wrote
table_cut name old new o text before now fault.Memory p says wrote = λ byte. ([], inl refl, nothing_more before now wrote)
table_cut name old new o text before now fault.Sink p says wrote = λ byte. (
  reply_text (opening_reply o),
  table_reply (NodeStep byte) (bare old) (bare new) name (opening_reply o) (opens_step byte name old new o p),
  subst (λ (t : List ℕ). AppendsPrefix before now t) says wrote,
)

-- it was, and then what follows it
pub table_read :
    (name : List ℕ) (old new : Standby) (o : OpenedBy) (text : List ℕ) (before between now : Option (List ℕ)) (result : Result ℕ SessionFault)
    → Opens name old o new → text ≡ reply_text (opening_reply o) → Appends before between text → (result ≡ Err fault.Archive → ⊥)
    → OpenedLeaves o new between now result → TableLeaves old name before now result
table_read name old new o text before between now result p says wrote other q = λ byte.
    let reply = opening_reply o in
    let opens = opens_step byte name old new o p in
    wrote_behind
    (λ text status. ReadsOpened (NodeStep byte) reply (bare new) (reply_text reply ++ text) status)
    (ScansTable (NodeStep byte) (bare old) name) (FrontBehind (NodeStep byte) reply (bare new))
    (FrontOfTable (NodeStep byte) (bare old) name) before between now (reply_text reply) result
    (subst (λ (t : List ℕ). Appends before between t) says wrote) other
    (λ text status is. table_whole (NodeStep byte) (bare old) (bare new) name text status reply opens is)
    (λ text is. table_front (NodeStep byte) (bare old) (bare new) name text reply opens is) (q byte)

-- the log was replayed to its end
pub replay_ends :
    (bytes later : Option (ℕ → Option ℕ)) (begin old new : Standby) (lsn : Lsn) (why : EndWhy) → later ≡ bytes
    → (count : ℕ) × AppliedTold bytes count begin old → StaysUnlessApplied (Ok (replayed.AtEnd lsn why)) old new
    → ReplaysTold later (Ok (replayed.AtEnd lsn why)) old new → ReplaysToTold bytes begin new (Ok None)
replay_ends bytes later begin old new lsn why e (count, p) stays q =
    by bytes p (subst (λ (b : Option (ℕ → Option ℕ)). ReplaysTold b (Ok (replayed.AtEnd lsn why)) old new) e q)
  where
    by : (b : Option (ℕ → Option ℕ)) → AppliedTold b count begin old → ReplaysTold b (Ok (replayed.AtEnd lsn why)) old new
        → ReplaysToTold b begin new (Ok None)
    by None p q = tt
    by (Some byte) p q = λ kept.
        let one = p kept in
        let two = q one.0 in (
          two.0,
          (
            lsn.0,
            why,
            record {
              count = count;
              mid = bare old;
              applies = one.1;
              replays = one_step byte old new (replayed.AtEnd lsn why) stays two.1;
              stops = refl;
            },
          ),
        )

-- or to a record that is refused
pub replay_refused :
    (bytes later : Option (ℕ → Option ℕ)) (begin old new : Standby) (lsn : Lsn) (what : Refusal) → later ≡ bytes
    → (count : ℕ) × AppliedTold bytes count begin old → StaysUnlessApplied (Ok (replayed.Refused lsn what)) old new
    → ReplaysTold later (Ok (replayed.Refused lsn what)) old new → ReplaysToTold bytes begin new (Ok (Some (lsn, what)))
replay_refused bytes later begin old new lsn what e (count, p) stays q =
    by bytes p (subst (λ (b : Option (ℕ → Option ℕ)). ReplaysTold b (Ok (replayed.Refused lsn what)) old new) e q)
  where
    by : (b : Option (ℕ → Option ℕ)) → AppliedTold b count begin old → ReplaysTold b (Ok (replayed.Refused lsn what)) old new
        → ReplaysToTold b begin new (Ok (Some (lsn, what)))
    by None p q = tt
    by (Some byte) p q = λ kept.
        let one = p kept in
        let two = q one.0 in (
          two.0,
          record {
            count = count;
            mid = bare old;
            applies = one.1;
            replays = one_step byte old new (replayed.Refused lsn what) stays two.1;
            stops = refl;
          },
        )

-- one more record was applied
pub replay_more :
    (bytes later : Option (ℕ → Option ℕ)) (begin old new : Standby) (start at : Lsn) (cancelled : ℕ) → later ≡ bytes
    → (count : ℕ) × AppliedTold bytes count begin old → ReplaysTold later (Ok (replayed.Applied start at cancelled)) old new
    → (count : ℕ) × AppliedTold bytes count begin new
replay_more bytes later begin old new start at cancelled e (count, p) q = (count + 1, applied_more bytes later count begin old new (replayed.Applied start at cancelled) e refl p tt q)

pub replay_none : (bytes : Option (ℕ → Option ℕ)) (node : Standby) → (count : ℕ) × AppliedTold bytes count node node
replay_none bytes node = (0, applied_none bytes node)

-- what a scan leaves
left_is :
    {S : Type 0} (step : Steps S) (s : S) (name : List ℕ) (before now : Option (List ℕ)) (result : Result ℕ SessionFault)
    → Wrote (IsScan step s name) (IsFrontOfScan step s name) before now result → ScanLeft step s name before now result
left_is step s name before now (Ok status) p = p
left_is step s name before now (Err fault.Archive) p = p
left_is step s name before now (Err fault.Memory) p = p
left_is step s name before now (Err fault.Sink) p = p
left_is step s name before now (Err fault.Source) p = p

pub scan_refused :
    (bytes : Option (ℕ → Option ℕ)) (name : List ℕ) (old mid : Standby) (at : Lsn) (what : Refusal) (before now : Option (List ℕ))
    (result : Result ℕ SessionFault) → ReplaysToTold bytes old mid (Ok (Some (at, what))) → WroteRefused at.0 what before now result
    → ScanLeftTold bytes name old before now result
scan_refused None name old mid at what before now result p q = tt
scan_refused (Some byte) name old mid at what before now result p q = λ kept.
    let replays = (p kept).1 in
    left_is (NodeStep byte) (bare old) name before now result
    (wrote_as (λ text status. (text ≡ refused_text at.0 what) × (status ≡ 5)) (IsScan (NodeStep byte) (bare old) name)
    (λ text. text ≡ []) (IsFrontOfScan (NodeStep byte) (bare old) name) before now result
    (λ text status is. record { last = Refused at.0 what; ended = bare mid; replays = replays; scans = is })
    (λ text is. inl is) q)

pub scan_read :
    (bytes : Option (ℕ → Option ℕ)) (name : List ℕ) (old mid : Standby) (before now : Option (List ℕ)) (result : Result ℕ SessionFault)
    → ReplaysToTold bytes old mid (Ok None) → TableLeaves mid name before now result → ScanLeftTold bytes name old before now result
scan_read None name old mid before now result p q = tt
scan_read (Some byte) name old mid before now result p q = λ kept.
    let (at, why, replays) = (p kept).1 in
    left_is (NodeStep byte) (bare old) name before now result
    (wrote_as (ScansTable (NodeStep byte) (bare mid) name) (IsScan (NodeStep byte) (bare old) name)
    (FrontOfTable (NodeStep byte) (bare mid) name) (IsFrontOfScan (NodeStep byte) (bare old) name) before now result
    (λ text status is. record { last = AtEnd at why; ended = bare mid; replays = replays; scans = is })
    (λ text is. further at why replays is) (q byte))
  where
    further : {text : List ℕ} (at : ℕ) (why : EndWhy) → ReplaysAll (NodeStep byte) (bare old) (AtEnd at why) (bare mid)
        → FrontOfTable (NodeStep byte) (bare mid) name text → IsFrontOfScan (NodeStep byte) (bare old) name text
    further at why replays (inl none) = inl none
    further at why replays (inr some) = inr (record { at = at; why = why; ended = bare mid; replays = replays; reads = some })

pub scan_failed : (bytes : Option (ℕ → Option ℕ)) (name : List ℕ) (old : Standby) (now : Option (List ℕ)) → ScanLeftTold bytes name old now now (Err fault.Archive)
scan_failed None name old now = tt
scan_failed (Some byte) name old now = λ kept. nothing_appended now

pub scan_short : (bytes : Option (ℕ → Option ℕ)) (name : List ℕ) (old : Standby) (now : Option (List ℕ)) → ScanLeftTold bytes name old now now (Err fault.Memory)
scan_short None name old now = tt
scan_short (Some byte) name old now = λ kept. ([], inl refl, nothing_appended now)
