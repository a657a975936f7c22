-- What the node's calls and the lines of their answers say of a request.
use Rattle.std.proofs.Common.{◌≡◌, ℕ, Bool, true, false, List, [], ◌++◌, ◌∷◌, Option, None, Some, Result, Ok, Err, refl, ap, sym, ◌∙◌, subst, append_assoc, is_some, if◌then◌else◌}
use Rattle.std.specs.Prelude.{IfOk, codes}
use Rattle.std.specs.List.{flat_map}
use Rattle.wal_reader.specs.Kept.{AreTold, Kept}
use Rattle.session_text.specs.Requests as request
use Rattle.session_text.specs.Requests.{Request}
use Rattle.table_schema.specs.Description.{Description, DescribedTable}
use Rattle.table_schema.specs.Tables.{columns_of, table_with}
use Rattle.seq_scan.specs.BlockRows.{BlockRows}
use Rattle.seq_scan.specs.Printed as printed
use Rattle.seq_scan.specs.Scans.{OpenScan, end_of_page, has_more}
use Rattle.recovery_conflict.specs.declared.locks.Cause.{Cause}
use Rattle.standby_core.specs.declared.types.Replayed.{Replayed}
use Rattle.standby_core.specs.declared.scans.Opened.{Opened}
use Rattle.standby_core.specs.declared.scans.Opened.TheVariants as opened
use Rattle.standby_core.specs.declared.scans.NodeScan.{NodeScan}
use Rattle.standby_core.specs.declared.scans.PrintedPage.{PrintedPage}
use Rattle.standby_core.specs.declared.scans.PrintedPage.TheVariants as shown
use Rattle.standby_core.specs.Standby.{Standby, node_status}
use Rattle.standby_core.specs.Scans.{Opens, PrintsPage, PrintsUnlessCancelled, after_closing, node_page, scan_with}
use Rattle.session_model.specs.Events as event
use Rattle.session_model.specs.Events.{Reply, is_trouble}
use Rattle.session_model.specs.Answers.{NotUnderstood, Replied, Replayed as ReplayedSome}
use Rattle.session_model.specs.NodeSteps.{Reads, ReadsUnlessCancelled, bare, opening_reply, replay_reply, status_by}
use Rattle.session_model.specs.Texts.{answer_text, end_line, replays_text, reply_text, row_line}
use Rattle.standby_session.specs.Answering.{AnswersAnyhow, AnswersTold, ReplaysTold}
use Rattle.standby_session.specs.Printed.{IsDamaged, SaysLast}
use Rattle.standby_session.specs.Scanning.{IsLast, IsLastPage, IsLastPrinted}
use Rattle.standby_session.proofs.Steps.{Same, opens_bare}

-- two facts of an answer
pub both_ok :
    {T E : Type 0} (r : Result T E) (P Q R : T → Type 0) → ((x : T) → P x → Q x → R x) → IfOk r P → IfOk r Q → IfOk r R
both_ok (Ok x) P Q R f p q = f x p q
both_ok (Err e) P Q R f p q = tt

-- where the log is not read
pub told_anyhow :
    (bytes : Option (ℕ → Option ℕ)) (asked : Request) (old new : Standby) (before now : List ℕ) (troubled : Bool)
    → AnswersAnyhow asked old new before now troubled → AnswersTold bytes asked old new before now (Ok troubled)
told_anyhow None asked old new before now troubled p = tt
told_anyhow (Some byte) asked old new before now troubled p =
    λ kept. (subst (λ (k : Kept). AreTold byte k) (sym p.kept) kept, p.anyhow byte)

pub standing_anyhow :
    (old : Standby) (before now : List ℕ) → now ≡ before ++ reply_text (event.Stands (status_by (node_status old)))
    → AnswersAnyhow request.AsksStatus old old before now false
unfolding answer_text node_status
standing_anyhow old before now e = record {
  kept = refl;
  anyhow = λ byte. record {
    answer = Replied (event.Stands (status_by (node_status old)));
    answers = (event.Stands (status_by (node_status old)), (refl, refl), refl);
    says = e;
    trouble = refl;
  };
}

opening_quiet : (o : Opened) → false ≡ is_trouble (opening_reply o)
opening_quiet (opened.Scan id at) = refl
opening_quiet opened.NoTable = refl
opening_quiet opened.TooMany = refl
opening_quiet (opened.NotAdmitted status) = refl
opening_quiet (opened.Gone lsn) = refl
opening_quiet (opened.Locked lsn xid) = refl

pub opening_anyhow :
    (name : List ℕ) (old new : Standby) (o : Opened) (before now : List ℕ) → Opens name old o new → Same old new
    → now ≡ before ++ reply_text (opening_reply o) → AnswersAnyhow (request.Opens name) old new before now false
unfolding answer_text
opening_anyhow name old new o before now p same e = record {
  kept = same.0;
  anyhow = λ byte. record {
    answer = Replied (opening_reply o);
    answers = (opening_reply o, (o, opens_bare name old new o p, refl), refl);
    says = e;
    trouble = opening_quiet o;
  };
}

closing_quiet : (was_open : Bool) (id : ℕ) → false ≡ is_trouble (if was_open then event.Closed id else event.NoScan)
closing_quiet true id = refl
closing_quiet false id = refl

pub closing_anyhow :
    (id : ℕ) (was_open : Bool) (old new : Standby) (before now : List ℕ) → was_open ≡ is_some (scan_with id old.scans)
    → new ≡ after_closing id old → now ≡ before ++ reply_text (if was_open then event.Closed id else event.NoScan)
    → AnswersAnyhow (request.Closes id) old new before now false
unfolding answer_text
closing_anyhow id was_open old new before now was e says = record {
  kept = ap (λ (n : Standby). n.kept) e;
  anyhow = λ byte. record {
    answer = Replied (if was_open then event.Closed id else event.NoScan);
    answers = (
      (if was_open then event.Closed id else event.NoScan),
      (ap (λ (b : Bool). if b then event.Closed id else event.NoScan) was, ap bare e),
      refl,
    );
    says = says;
    trouble = closing_quiet was_open id;
  };
}

pub unreadable_anyhow :
    (old : Standby) (before now : List ℕ) → now ≡ before ++ answer_text NotUnderstood
    → AnswersAnyhow request.Unreadable old old before now false
unreadable_anyhow old before now e = record {
  kept = refl;
  anyhow = λ byte. record { answer = NotUnderstood; answers = (refl, refl); says = e; trouble = refl };
}

-- a page that is read
record ReadsSo (id : ℕ) (scan : Option NodeScan) (old new : Standby) (before now : List ℕ) (troubled : Bool) : Type 0 where
  reply : Reply
  reads : Reads id scan (bare old) reply (bare new)
  says : now ≡ before ++ reply_text reply
  trouble : troubled ≡ is_trouble reply

reads_anyhow :
    (id : ℕ) (old new : Standby) (before now : List ℕ) (troubled : Bool) → Same old new
    → ReadsSo id (scan_with id old.scans) old new before now troubled → AnswersAnyhow (request.Reads id) old new before now troubled
unfolding answer_text
reads_anyhow id old new before now troubled same p = record {
  kept = same.0;
  anyhow = λ byte. record {
    answer = Replied p.reply;
    answers = (p.reply, p.reads, refl);
    says = p.says;
    trouble = p.trouble;
  };
}

-- what a page leaves as it was
same_by :
    (id : ℕ) (cause : Option Cause) (scan : OpenScan) (old : Standby) (page : Option PrintedPage) (new : Standby) (head before now : List ℕ)
    → PrintsUnlessCancelled id cause scan old page new head before now → Same old new × (new.tables ≡ old.tables)
same_by id (Some cause) scan old page new head before now (is, e, text) =
    ((ap (λ (n : Standby). n.kept) e, ap (λ (n : Standby). n.segsize) e), ap (λ (n : Standby). n.tables) e)
same_by id None scan old page new head before now (is, e, text) =
    ((ap (λ (n : Standby). n.kept) e, ap (λ (n : Standby). n.segsize) e), ap (λ (n : Standby). n.tables) e)

pub page_same :
    (id : ℕ) (scan : Option NodeScan) (old : Standby) (page : Option PrintedPage) (new : Standby) (head before now : List ℕ)
    → PrintsPage id scan old page new head before now → Same old new × (new.tables ≡ old.tables)
page_same id None old page new head before now (none, e, text) =
    ((ap (λ (n : Standby). n.kept) e, ap (λ (n : Standby). n.segsize) e), ap (λ (n : Standby). n.tables) e)
page_same id (Some one) old page new head before now p = same_by id one.cause one.scan old page new head before now p

-- a scan that is open has a page, or tells why it was cancelled
some_printed :
    (id : ℕ) (cause : Option Cause) (scan : OpenScan) (old new : Standby) (head before now : List ℕ)
    → PrintsUnlessCancelled id cause scan old None new head before now → ⊥
some_printed id (Some cause) scan old new head before now (some, e, text) = absurd (cc)
some_printed id None scan old new head before now (some, e, text) = absurd (cc)

no_page :
    (id : ℕ) (scan : Option NodeScan) (old new : Standby) (head before mid now : List ℕ) → PrintsPage id scan old None new head before mid
    → now ≡ mid ++ reply_text event.NoScan → ReadsSo id scan old new before now false
no_page id None old new head before mid now (none, e, text) says = record {
  reply = event.NoScan;
  reads = (refl, ap bare e);
  says = says ∙ ap (λ (t : List ℕ). t ++ reply_text event.NoScan) text;
  trouble = refl;
}
no_page id (Some one) old new head before mid now p says = absurd (some_printed id one.cause one.scan old new head before mid p)

pub no_page_anyhow :
    (id : ℕ) (old new : Standby) (head before mid now : List ℕ) → PrintsPage id (scan_with id old.scans) old None new head before mid
    → now ≡ mid ++ reply_text event.NoScan → AnswersAnyhow (request.Reads id) old new before now false
no_page_anyhow id old new head before mid now p says =
    reads_anyhow id old new before now false (page_same id (scan_with id old.scans) old None new head before mid p).0
    (no_page id (scan_with id old.scans) old new head before mid now p says)

-- the lines of rows
same_texts : {Row : Type 0} (f g : Row → List ℕ) → ((row : Row) → f row ≡ g row) → (rows : List Row) → flat_map f rows ≡ flat_map g rows
same_texts f g same [] = refl
same_texts f g same (row ∷ rows) = ap (λ (t : List ℕ). t ++ flat_map f rows) (same row) ∙ ap (λ (t : List ℕ). g row ++ t) (same_texts f g same rows)

-- the lines of a page that was printed, and how it ends
page_says :
    (id : ℕ) (scan : OpenScan) (old : Standby) (tables : Description) (before mid now : List ℕ)
    → mid ≡ before ++ flat_map (printed.row_line (codes "row ") (columns_of old.tables scan.table)) (node_page old scan).rows
    → tables ≡ old.tables
    → now ≡ mid ++ end_line id (table_with tables scan.table) scan.given (has_more scan) (node_page old scan).end
    → now ≡ before ++ reply_text (event.Page id (table_with old.tables scan.table) scan.given (has_more scan) (node_page old scan))
unfolding reply_text row_line
page_says id scan old tables before mid now text same ends =
    let rows = node_page old scan in
    let lines_same : flat_map (printed.row_line (codes "row ") (columns_of old.tables scan.table)) rows.rows ≡ flat_map (row_line (columns_of old.tables scan.table)) rows.rows =
    same_texts (printed.row_line (codes "row ") (columns_of old.tables scan.table)) (row_line (columns_of old.tables scan.table)) (λ row. refl) rows.rows in
    let line : table_with tables scan.table ≡ table_with old.tables scan.table = ap (λ (t : Description). table_with t scan.table) same in
    ends
    ∙ ap (λ (t : List ℕ). t ++ end_line id (table_with tables scan.table) scan.given (has_more scan) rows.end) text
    ∙ append_assoc before (flat_map (printed.row_line (codes "row ") (columns_of old.tables scan.table)) rows.rows) (end_line id (table_with tables scan.table) scan.given (has_more scan) rows.end)
    ∙ ap (λ (t : List ℕ). before ++ (t ++ end_line id (table_with tables scan.table) scan.given (has_more scan) rows.end)) lines_same
    ∙ ap (λ (t : DescribedTable). before ++ (flat_map (row_line (columns_of old.tables scan.table)) rows.rows ++ end_line id t scan.given (has_more scan) rows.end)) line

-- the reply that a printed page is
pub record IsReply (IsRead : Reply → Type 0) (page : PrintedPage) (before now : List ℕ) : Type 0 where
  pub reply : Reply
  pub reads : IsRead reply
  pub says : now ≡ before ++ reply_text reply
  pub trouble : (damaged : Bool) → IsDamaged page damaged → damaged ≡ is_trouble reply
  pub is_last : (last : Option ℕ) → IsLastPrinted last page → IsLast last reply

last_of_page :
    (id : ℕ) (table : DescribedTable) (block : ℕ) (more : Bool) (rows : BlockRows) (last : Option ℕ) → IsLastPage last more rows.end
    → IsLast last (event.Page id table block more rows)
last_of_page id table block more rows None p = p
last_of_page id table block more rows (Some status) p = p

last_cancelled : (id : ℕ) (cause : Cause) (last : Option ℕ) → last ≡ Some 1 → IsLast last (event.Cancelled id cause)
last_cancelled id cause None e = absurd (cc)
last_cancelled id cause (Some status) e = (refl, cc)

reply_by :
    (id : ℕ) (cause : Option Cause) (scan : OpenScan) (old new : Standby) (tables : Description) (page : PrintedPage) (before mid now : List ℕ)
    → PrintsUnlessCancelled id cause scan old (Some page) new (codes "row ") before mid → tables ≡ old.tables
    → SaysLast id tables page mid now → IsReply (λ reply. ReadsUnlessCancelled id cause scan (bare old) reply (bare new)) page before now
reply_by id (Some cause) scan old new tables page before mid now (some, e, text) same says =
    let is : page ≡ shown.Cancelled cause = cc in
    record {
      reply = event.Cancelled id cause;
      reads = (refl, ap bare e);
      says = subst (λ (p : PrintedPage). SaysLast id tables p mid now) is says ∙ ap (λ (t : List ℕ). t ++ reply_text (event.Cancelled id cause)) text;
      trouble = λ damaged by. subst (λ (p : PrintedPage). IsDamaged p damaged) is by;
      is_last = λ last by. last_cancelled id cause last (subst (λ (p : PrintedPage). IsLastPrinted last p) is by);
    }
reply_by id None scan old new tables page before mid now (some, e, text) same says =
    let rows = node_page old scan in
    let is : page ≡ shown.Given scan.table (end_of_page scan rows) = cc in
    record {
      reply = event.Page id (table_with old.tables scan.table) scan.given (has_more scan) rows;
      reads = (refl, ap bare e);
      says = page_says id scan old tables before mid now text same
          (subst (λ (p : PrintedPage). SaysLast id tables p mid now) is says scan.given (has_more scan) rows.end refl);
      trouble = λ damaged by. subst (λ (p : PrintedPage). IsDamaged p damaged) is by scan.given (has_more scan) rows.end refl;
      is_last = λ last by. last_of_page id (table_with old.tables scan.table) scan.given (has_more scan) rows last
          (subst (λ (p : PrintedPage). IsLastPrinted last p) is by scan.given (has_more scan) rows.end refl);
    }

pub reply_of :
    (id : ℕ) (scan : Option NodeScan) (old new : Standby) (tables : Description) (page : PrintedPage) (before mid now : List ℕ)
    → PrintsPage id scan old (Some page) new (codes "row ") before mid → tables ≡ new.tables → SaysLast id tables page mid now
    → IsReply (λ reply. Reads id scan (bare old) reply (bare new)) page before now
reply_of id None old new tables page before mid now (none, e, text) same says = absurd (cc)
reply_of id (Some one) old new tables page before mid now p same says =
    reply_by id one.cause one.scan old new tables page before mid now p
    (same ∙ (same_by id one.cause one.scan old (Some page) new (codes "row ") before mid p).1) says

pub some_page_anyhow :
    (id : ℕ) (old new : Standby) (tables : Description) (page : PrintedPage) (before mid now : List ℕ) (damaged : Bool)
    → PrintsPage id (scan_with id old.scans) old (Some page) new (codes "row ") before mid → tables ≡ new.tables
    → SaysLast id tables page mid now → IsDamaged page damaged → AnswersAnyhow (request.Reads id) old new before now damaged
some_page_anyhow id old new tables page before mid now damaged p same says by =
    let is = reply_of id (scan_with id old.scans) old new tables page before mid now p same says in
    reads_anyhow id old new before now damaged (page_same id (scan_with id old.scans) old (Some page) new (codes "row ") before mid p).0
    (record { reply = is.reply; reads = is.reads; says = is.says; trouble = is.trouble damaged by })

-- the line of replays
pub replays_told :
    (bytes : Option (ℕ → Option ℕ)) (count applied : ℕ) (old new : Standby) (last : Replayed) (before now : List ℕ) (troubled : Bool)
    → ReplaysTold bytes count old new (Ok (applied, last)) → now ≡ before ++ replays_text applied (replay_reply last)
    → troubled ≡ is_trouble (replay_reply last) → AnswersTold bytes (request.Replays count) old new before now (Ok troubled)
unfolding answer_text
replays_told None count applied old new last before now troubled p says trouble = tt
replays_told (Some byte) count applied old new last before now troubled p says trouble = λ kept.
    let (later, replays) = p kept in (
      later,
      record { answer = ReplayedSome applied (replay_reply last); answers = replays; says = says; trouble = trouble },
    )
