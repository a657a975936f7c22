-- What the answers of a session give of an open scan: whole blocks of its rows, one after the other.
use Rattle.std.proofs.Common.{◌≡◌, ℕ, suc, ◌+◌, Bool, true, false, not, ◌&&◌, ◌||◌, nat_lt, List, [], ◌∷◌, ◌++◌, length, Option, Some, None, arith, refl, sym, ap, ◌∙◌, subst, add-one}
use Rattle.std.specs.List.{filter, list_any}
use Rattle.std.proofs.lemmas.Bool.{false≢true, true≢false}
use Rattle.typed_records.specs.declared.types.Rec.{Rec}
use Rattle.recovery_conflict.specs.declared.locks.Cause.{Cause}
use Rattle.row_model.specs.Versions.{Version}
use Rattle.row_model.specs.RowSteps.{block_count, versions}
use Rattle.row_model.specs.Rows.{IsRows, OneRows}
use Rattle.row_model.specs.Origins.{committed_in}
use Rattle.row_model.specs.Multixacts.{multixacts}
use Rattle.row_pages.specs.Pages.{is_in_block, rows_of_versions}
use Rattle.seq_scan.specs.BlockRows.{BlockRows}
use Rattle.session_text.specs.Requests.{Request}
use Rattle.table_schema.specs.Description.{DescribedTable}
use Rattle.table_schema.specs.Tables.{columns_of, file_of, table_with}
use Rattle.standby_core.specs.Scans.{is_whole}
use Rattle.session_model.specs.Events.{Reply, Page, Closed, Cancelled}
use Rattle.session_model.specs.Answers.{Answer, Talks}
use Rattle.legal_session.specs.AbstractStandby.{AbstractStandby, GivesRows, Step, World, log_origin, scan_in}
use Rattle.legal_session.specs.GivenRows.{FollowUnless, SayFrom, cause_in, ends_scan, is_last_page, page_reply, pages_in, said_in, said_of, scan_after}
use Rattle.legal_session.specs.WholeScans.{FollowIf, GivesPages}
use Rattle.legal_session.proofs.GivenScans.{first_of, scan_in_is}
use Rattle.legal_session.proofs.GivenSessions.{none_first, none_said, open_answers, over_talks, said_first}
use Rattle.legal_session.proofs.GivenStages.{FromOpen, StaysOpen, IsClosed, Turns, Finishes, IsCut, IsOpen, IsOver, scan_at}

-- others follow a page as it is said, and as it is given
follow_on : (Others : Type 0) (t : Bool) (replies : List Reply) → t ≡ false → Others → FollowUnless t Others replies
follow_on Others false replies e others = others
follow_on Others true replies e others = cc

none_follow : (Others : Type 0) (t : Bool) → t ≡ true → FollowUnless t Others []
none_follow Others true e = refl
none_follow Others false e = cc

pages_on : (Others : Type 0) (t : Bool) (pages : List BlockRows) → t ≡ true → Others → FollowIf t Others pages
pages_on Others true pages e others = others
pages_on Others false pages e others = cc

no_pages_on : (Others : Type 0) (t : Bool) → t ≡ false → FollowIf t Others []
no_pages_on Others true e = cc
no_pages_on Others false e = refl

any_next : (test : Reply → Bool) (reply : Reply) (replies : List Reply) (t : Bool) → test reply ≡ t
    → list_any test (reply ∷ replies) ≡ (t || list_any test replies)
any_next test reply replies t e = ap (λ (b : Bool). b || list_any test replies) e

page_first :
    (id : ℕ) (table : DescribedTable) (block : ℕ) (more : Bool) (page : BlockRows) (replies : List Reply)
    → pages_in (Page id table block more page ∷ replies) ≡ page ∷ pages_in replies
unfolding pages_in
page_first id table block more page replies = refl

one_page :
    (id : ℕ) (table : DescribedTable) (block : ℕ) (more : Bool) (page : BlockRows)
    → pages_in (Page id table block more page ∷ []) ≡ page ∷ []
unfolding pages_in
one_page id table block more page = refl

next_place : (given count : ℕ) → given + 1 + count ≡ given + suc count
next_place given count = omega arith

no_place : (given : ℕ) → given ≡ given + 0
no_place given = omega arith

module _ (w : World) (id table : ℕ) (opened : List Rec) (xmin : ℕ) where
  -- where the scan is open or over after a session
  pub data Stage (now : AbstractStandby) : Type 0 where
    StillOpen : (given : ℕ) → IsOpen w id table opened xmin given now → Stage now
    Over : (was : Option Cause) → IsOver w id table opened xmin was now → Stage now

  abbrev pub later_of : {now : AbstractStandby} → Stage now → List Rec
  later_of (StillOpen given is) = is.later
  later_of (Over was is) = is.later

  pub since_of : (now : AbstractStandby) (stage : Stage now) → now.life ≡ later_of stage ++ opened
  since_of now (StillOpen given is) = is.since
  since_of now (Over was is) = is.since

  -- it is open, with so many blocks given
  abbrev pub IsStill : {now : AbstractStandby} → Stage now → ℕ → Type 0
  IsStill (StillOpen given is) count = given ≡ count
  IsStill (Over was is) count = ⊥

  pub still_there :
      (now : AbstractStandby) (stage : Stage now) (count : ℕ) → IsStill stage count
      → scan_in id now.scans ≡ Some (scan_after w table id xmin opened (later_of stage) count)
  still_there now (StillOpen given is) count same =
      scan_in_is id now.scans ∙ ap first_of is.held
      ∙ ap (λ (n : ℕ). Some (scan_after w table id xmin opened is.later n)) same
  still_there now (Over was is) count same = absurd same

module _
    (one_rows : OneRows) (w : World) (id table : ℕ) (opened : List Rec) (xmin : ℕ) (rows : List Version)
    (are : IsRows (multixacts opened) (committed_in (log_origin w) opened) (versions (log_origin w) (file_of w.tables table) opened) rows) where
  abbrev count : ℕ
  count = block_count (log_origin w) (file_of w.tables table) opened

  abbrev page : ℕ → Reply
  page block = page_reply w table count rows id block

  abbrev described : DescribedTable
  described = table_with w.tables table

  -- what replies give of the scan from a block on
  pub record Gave (given : ℕ) (replies : List Reply) (now : AbstractStandby) : Type 0 where
    pub stage : Stage w id table opened xmin now
    pub says : SayFrom page (cause_in w table xmin (later_of w id table opened xmin stage)) given replies
    pub whole : list_any is_last_page replies ≡ true → GivesPages w (scan_at w id table opened xmin given) (pages_in replies)
    pub goes_on : list_any ends_scan replies ≡ false → IsStill w id table opened xmin stage (given + length replies)

  page_is :
      (given : ℕ) (block : BlockRows) (more : Bool) → GivesRows w (scan_at w id table opened xmin given) block more
      → Page id described given more block ≡ page given
  page_is given block more gives =
      ap (λ (b : Bool). Page id described given b block) gives.further
      ∙ ap (λ (p : BlockRows). Page id described given (nat_lt (given + 1) count) p)
      (gives.gives
      ∙ ap (λ (us : List Version). rows_of_versions (columns_of w.tables table) (filter (is_in_block given) us))
      (one_rows (multixacts opened) (committed_in (log_origin w) opened) (versions (log_origin w) (file_of w.tables table) opened) gives.rows rows gives.are_rows are))

  -- nothing yet
  gave_none : (given : ℕ) (now : AbstractStandby) → IsOpen w id table opened xmin given now → Gave given [] now
  gave_none given now is = record {
    stage = StillOpen given is;
    says = tt;
    whole = λ e. absurd (false≢true e);
    goes_on = λ e. no_place given;
  }

  -- its next page, and others
  gave_page :
      (given : ℕ) (block : BlockRows) (replies : List Reply) (now : AbstractStandby)
      → GivesRows w (scan_at w id table opened xmin given) block true → is_whole block.end ≡ true → Gave (given + 1) replies now
      → Gave given (Page id described given true block ∷ replies) now
  gave_page given block replies now gives whole rest = record {
    stage = rest.stage;
    says = (
      page_is given block true gives,
      follow_on (SayFrom page (cause_in w table xmin (later_of w id table opened xmin rest.stage)) (suc given) replies)
          (not (true && is_whole block.end)) replies (ap not whole)
          (subst (λ (n : ℕ). SayFrom page (cause_in w table xmin (later_of w id table opened xmin rest.stage)) n replies)
          (add-one given) rest.says),
    );
    whole = λ e.
        subst (λ (pages : List BlockRows). GivesPages w (scan_at w id table opened xmin given) pages)
        (sym (page_first id described given true block replies)) (
          true,
          gives,
          pages_on (GivesPages w (scan_at w id table opened xmin (given + 1)) (pages_in replies)) (true && is_whole block.end)
              (pages_in replies) whole
              (rest.whole (sym (any_next is_last_page (Page id described given true block) replies false (ap not whole)) ∙ e)),
        );
    goes_on = λ e.
        subst (λ (n : ℕ). IsStill w id table opened xmin rest.stage n) (next_place given (length replies))
        (rest.goes_on (sym (any_next ends_scan (Page id described given true block) replies false (ap not whole)) ∙ e));
  }

  -- its last page
  gave_last :
      (given : ℕ) (block : BlockRows) (more : Bool) (now : AbstractStandby)
      → GivesRows w (scan_at w id table opened xmin given) block more → (more && is_whole block.end) ≡ false
      → IsOver w id table opened xmin None now → Gave given (Page id described given more block ∷ []) now
  gave_last given block more now gives ends over = record {
    stage = Over None over;
    says = (
      page_is given block more gives,
      none_follow (SayFrom page (cause_in w table xmin over.later) (suc given) []) (not (more && is_whole block.end)) (ap not ends),
    );
    whole = λ e.
        subst (λ (pages : List BlockRows). GivesPages w (scan_at w id table opened xmin given) pages)
        (sym (one_page id described given more block)) (
          more,
          gives,
          no_pages_on (GivesPages w (scan_at w id table opened xmin (given + 1)) []) (more && is_whole block.end) ends,
        );
    goes_on = λ e.
        absurd (true≢false (sym (any_next ends_scan (Page id described given more block) [] true (ap not ends)) ∙ e));
  }

  -- what cancelled it, or that it was closed
  gave_cut :
      (given : ℕ) (cause : Cause) (now : AbstractStandby) → IsOver w id table opened xmin (Some cause) now
      → Gave given (Cancelled id cause ∷ []) now
  gave_cut given cause now over = record {
    stage = Over (Some cause) over;
    says = (over.kept cause refl, refl);
    whole = λ e. absurd (false≢true e);
    goes_on = λ e. absurd (true≢false e);
  }

  gave_closed : (given : ℕ) (now : AbstractStandby) → IsOver w id table opened xmin None now → Gave given (Closed id ∷ []) now
  gave_closed given now over = record {
    stage = Over None over;
    says = (tt, refl);
    whole = λ e. absurd (false≢true e);
    goes_on = λ e. absurd (true≢false e);
  }

  -- a reply, and then what others say
  said_after :
      (reply : Reply) (answer : Answer) (answers : List Answer) → said_of id answer ≡ reply ∷ []
      → said_in id (answer ∷ answers) ≡ reply ∷ said_in id answers
  said_after reply answer answers says =
      said_first id answer answers ∙ ap (λ (said : List Reply). said ++ said_in id answers) says

  said_last :
      (reply : Reply) (answer : Answer) (answers : List Answer) → said_of id answer ≡ reply ∷ [] → said_in id answers ≡ []
      → said_in id (answer ∷ answers) ≡ reply ∷ []
  said_last reply answer answers says none =
      said_after reply answer answers says ∙ ap (λ (said : List Reply). reply ∷ said) none

  -- by what the first answer says, and what the others do where the scan goes on
  gave_by :
      (requests : List Request) (answer : Answer) (answers : List Answer) (given : ℕ) (mid now : AbstractStandby)
      → Talks (Step w) requests mid answers now
      → ((next : ℕ) → IsOpen w id table opened xmin next mid → Gave next (said_in id answers) now)
      → FromOpen w id table opened xmin given (said_of id answer) mid → Gave given (said_in id (answer ∷ answers)) now
  gave_by requests answer answers given mid now rest further (StaysOpen none is) =
      subst (λ (said : List Reply). Gave given said now) (sym (none_first id answer answers none)) (further given is)
  gave_by requests answer answers given mid now rest further (Turns block says gives whole is) =
      subst (λ (said : List Reply). Gave given said now)
      (sym (said_after (Page id described given true block) answer answers says))
      (gave_page given block (said_in id answers) now gives whole (further (given + 1) is))
  gave_by requests answer answers given mid now rest further (Finishes block more says gives ends over) =
      let (none, last) = over_talks w id table opened xmin None requests answers mid now over rest in
      subst (λ (said : List Reply). Gave given said now)
      (sym (said_last (Page id described given more block) answer answers says none)) (gave_last given block more now gives ends last)
  gave_by requests answer answers given mid now rest further (IsClosed says over) =
      let (none, last) = over_talks w id table opened xmin None requests answers mid now over rest in
      subst (λ (said : List Reply). Gave given said now) (sym (said_last (Closed id) answer answers says none)) (gave_closed given now last)
  gave_by requests answer answers given mid now rest further (IsCut cause says over) =
      let (none, last) = over_talks w id table opened xmin (Some cause) requests answers mid now over rest in
      subst (λ (said : List Reply). Gave given said now)
      (sym (said_last (Cancelled id cause) answer answers says none)) (gave_cut given cause now last)

  pub gave_talks :
      (requests : List Request) (answers : List Answer) (given : ℕ) (s now : AbstractStandby)
      → IsOpen w id table opened xmin given s → Talks (Step w) requests s answers now → Gave given (said_in id answers) now
  unfolding Talks
  gave_talks [] [] given s now is same =
      subst (λ (said : List Reply). Gave given said now) (sym (none_said id))
      (gave_none given now (subst (λ (t : AbstractStandby). IsOpen w id table opened xmin given t) (sym same) is))
  gave_talks [] (answer ∷ answers) given s now is talks = absurd talks
  gave_talks (asked ∷ requests) [] given s now is talks = absurd talks
  gave_talks (asked ∷ requests) (answer ∷ answers) given s now is (mid, answered, rest) =
      gave_by requests answer answers given mid now rest
      (λ next on. gave_talks requests answers next mid now on rest)
      (open_answers w id table opened xmin given asked s mid answer is answered)
