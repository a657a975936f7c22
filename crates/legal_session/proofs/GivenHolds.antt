-- What is given of each scan that a session opens: the rows that were committed at its opening.
use Rattle.std.proofs.Common.{◌≡◌, ℕ, ◌+◌, ◌≤◌, Bool, true, false, not, ◌&&◌, ◌||◌, List, [], ◌∷◌, length, Option, Some, None, Ok, arith, refl, sym, ap, ◌∙◌, subst}
use Rattle.std.specs.Prelude.{is_some, nat_le}
use Rattle.std.proofs.lemmas.Bool.{and_parts, eq-eqb}
use Rattle.pg_types.specs.declared.names.Locator.{Locator}
use Rattle.pg_types.specs.declared.names.Lsn.{Lsn}
use Rattle.heap_redo.specs.Redone.{table_of}
use Rattle.known_assigned.specs.declared.state.State.{State}
use Rattle.known_assigned.specs.declared.state.State.TheVariants.{Initialized, Pending, Ready}
use Rattle.typed_records.specs.declared.types.Rec.{Rec}
use Rattle.record_numbers.specs.Laws.{ToldNumbersFit}
use Rattle.row_model.specs.Versions.{Version}
use Rattle.row_model.specs.RowSteps.{block_count, versions}
use Rattle.row_model.specs.Rows.{IsRows, OneRows}
use Rattle.row_model.specs.Origins.{committed_in}
use Rattle.row_model.specs.Multixacts.{multixacts}
use Rattle.row_model.specs.Locks.{drops, is_gone}
use Rattle.row_pages.specs.Pages.{ScanGivesRows, rows_of_versions}
use Rattle.row_redo.specs.Shown.{BlocksShowVersions}
use Rattle.row_visibility.specs.Sees.{AllKept, SeesRows, StateAlong, state_along}
use Rattle.session_text.specs.Requests.{Request}
use Rattle.standby_model.specs.Laws.{LogRises}
use Rattle.standby_model.specs.Log.{Stands}
use Rattle.standby_core.specs.Scans.{is_ready}
use Rattle.standby_core.specs.Standby.{described_in}
use Rattle.table_schema.specs.Description.{locators}
use Rattle.table_schema.specs.Laws.{TablesAreApart}
use Rattle.table_schema.specs.Reading as schema
use Rattle.table_schema.specs.Tables.{columns_of, file_of, number_named}
use Rattle.transaction_model.specs.Transactions.{state_of}
use Rattle.xact_redo.specs.Sees.{sees}
use Rattle.xact_redo.specs.TransactionsOf.{transactions_of}
use Rattle.session_model.specs.Events.{Reply, Opened}
use Rattle.session_model.specs.Answers.{Answer, Replied, Talks}
use Rattle.legal_session.specs.AbstractStandby.{AbstractStandby, IsLeastLive, Step, World, admits, first_drop, gone_at, life_begins, log_origin, position_of, state_in, with_scan}
use Rattle.legal_session.specs.GivenRows.{GaveRows, ScansGiveRows, cause_in, pages_in, said_in}
use Rattle.legal_session.specs.WholeScans.{PagesAreRows}
use Rattle.legal_session.proofs.Described.{file_is_found}
use Rattle.legal_session.proofs.Facts.{IsGood, LogLaws, legal_log, table_shown}
use Rattle.legal_session.proofs.GivenChanges.{Opening, Admits, Declines, opening_of}
use Rattle.legal_session.proofs.GivenKept.{IsSound, sound_talks}
use Rattle.legal_session.proofs.GivenPages.{IsStill, gave_talks, later_of, since_of, still_there}
use Rattle.legal_session.proofs.GivenScans.{found, found_new}
use Rattle.legal_session.proofs.GivenSessions.{ahead_talks}
use Rattle.legal_session.proofs.GivenStages.{IsOpen, scan_at}

-- a table that no record drops is there
not_dropped :
    (dropped : Bool) (start : ℕ) (gone : Option ℕ) (rest : Bool) → first_drop dropped start gone ≡ None → (gone ≡ None → rest ≡ false)
    → (dropped || rest) ≡ false
not_dropped dropped start (Some at) rest e later = cc
not_dropped true start None rest e later = cc
not_dropped false start None rest e later = later refl

is_there : (file : Locator) (log : List Rec) → gone_at file log ≡ None → is_gone file log ≡ false
unfolding gone_at
is_there file [] e = refl
is_there file (rec ∷ older) e =
    not_dropped (drops file rec) rec.start.0 (gone_at file older) (is_gone file older) e (λ rest. is_there file older rest)

ready_is : (state : State) → is_ready state ≡ true → state ≡ Ready
ready_is Initialized e = cc
ready_is (Pending until) e = cc
ready_is Ready e = refl

-- the rows of a described table that was not dropped, where the running transactions are known
rows_are :
    (logs : LogLaws) → AllKept → StateAlong → SeesRows → ScanGivesRows → (w : World) (start : ℕ) (good : IsGood w start) (log : List Rec)
    (table : ℕ) → Stands w.told (described_in w.tables) start log
    → table_of (locators w.tables) (file_of w.tables table) ≡ Some table → is_gone (file_of w.tables table) log ≡ false
    → is_ready (state_of (transactions_of log)) ≡ true
    → (rows : List Version)
    × IsRows (multixacts log) (committed_in (log_origin w) log) (versions (log_origin w) (file_of w.tables table) log) rows
rows_are logs kept along sees_rows scan_gives w start good log table stands described there ready =
    let o = log_origin w in
    let rules = legal_log logs w start good log stands in
    let known = along o.transactions log (state_along log) rules.transactions (kept log) ∙ ready_is (state_of (transactions_of log)) ready in
    let (rows, are, scanned) =
    scan_gives o log (versions o (file_of w.tables table) log) (block_count o (file_of w.tables table) log) (rules.view table)
    (columns_of w.tables table) (sees (state_along log)) (table_shown logs w start good log stands rules.view table rules.redone described there)
    (λ v tuple shows sound. sees_rows o log (state_along log) (λ x. (refl, refl)) rules.transactions (kept log) known v tuple shows sound) in
    (rows, are)

-- where a life begins no scan is open
begins_sound : (w : World) (redo : Lsn) → IsSound w redo.0 (life_begins redo)
begins_sound w redo = record { begins = refl; stands = tt; free = λ id past. refl }

-- a scan that was opened is open
next_open :
    (w : World) (table xmin : ℕ) (s : AbstractStandby) → ((id : ℕ) → s.next_id ≤ id → found id s.scans ≡ [])
    → IsOpen w s.next_id table s.life xmin 0 (with_scan table xmin s)
unfolding cause_in
next_open w table xmin s free = record {
  later = [];
  since = refl;
  held = found_new s.next_id s.scans (record { id = s.next_id; table = table; opened = s.life; xmin = xmin; given = 0; cause = None })
      (eq-eqb s.next_id s.next_id refl) (free s.next_id (omega arith));
  below = omega arith;
}

open_there :
    (w : World) (table xmin id : ℕ) (s mid : AbstractStandby) → ((id : ℕ) → s.next_id ≤ id → found id s.scans ≡ [])
    → id ≡ s.next_id → mid ≡ with_scan table xmin s → IsOpen w id table s.life xmin 0 mid
open_there w table xmin id s mid free same leads =
    subst (λ (n : ℕ). IsOpen w n table s.life xmin 0 mid) (sym same)
    (subst (λ (t : AbstractStandby). IsOpen w s.next_id table s.life xmin 0 t) (sym leads) (next_open w table xmin s free))

not_past : (a b : ℕ) → a ≡ b → a ≤ b
not_past a b same = omega (arith, same)

from_none : (n : ℕ) → 0 + n ≡ n
from_none n = omega arith

one_reply : (a b : Reply) → Replied a ≡ Replied b → a ≡ b
one_reply a b e = cc

pub one_id : (id at other there : ℕ) → ◌≡◌ {A = Reply} (Opened id at) (Opened other there) → id ≡ other
one_id id at other there e = cc

pub one_place : (id at other there : ℕ) → ◌≡◌ {A = Reply} (Opened id at) (Opened other there) → at ≡ there
one_place id at other there e = cc

module _
    (apart : TablesAreApart) (logs : LogLaws) (kept : AllKept) (along : StateAlong) (sees_rows : SeesRows) (scan_gives : ScanGivesRows)
    (pages_are : PagesAreRows) (one_rows : OneRows) (w : World) (redo : Lsn) (text : List ℕ) (good : IsGood w redo.0)
    (described : schema.Answers text (Ok w.tables)) where
  -- what is given of it, where it was opened
  gave_scan :
      (after : List Request) (answers : List Answer) (name : List ℕ) (id table xmin : ℕ) (s mid now : AbstractStandby)
      → IsSound w redo.0 s → IsLeastLive w s xmin → number_named w.tables name ≡ Some table → admits s ≡ true
      → gone_at (file_of w.tables table) s.life ≡ None → IsOpen w id table s.life xmin 0 mid → Talks (Step w) after mid answers now
      → GaveRows w s table id answers now
  gave_scan after answers name id table xmin s mid now sound least named admitted there_at is talks =
      let file = file_of w.tables table in
      let known = file_is_found apart text w.tables name table described named in
      let there = is_there file s.life there_at in
      let ready =
      (and_parts (nat_le s.min (position_of s) && not (is_some s.awaited)) (is_ready (state_in s)) admitted).1 in
      let (rows, are) = rows_are logs kept along sees_rows scan_gives w redo.0 good s.life table sound.stands known there ready in
      let gave = gave_talks one_rows w id table s.life xmin rows are after answers 0 mid now is talks in
      record {
        rows = rows;
        are_rows = are;
        xmin = xmin;
        least = least;
        later = later_of w id table s.life xmin gave.stage;
        since = since_of w id table s.life xmin now gave.stage;
        says = gave.says;
        whole = λ e.
            let (others, have, is_rows) =
            pages_are w redo.0 good.sized good.tells good.legal (scan_at w id table s.life xmin 0) (pages_in (said_in id answers))
            sound.stands known there refl (gave.whole e) in
            is_rows
            ∙ ap (rows_of_versions (columns_of w.tables table))
            (one_rows (multixacts s.life) (committed_in (log_origin w) s.life) (versions (log_origin w) file s.life) others rows have are);
        goes_on = λ e.
            still_there w id table s.life xmin now gave.stage (length (said_in id answers))
            (subst (λ (n : ℕ). IsStill w id table s.life xmin gave.stage n) (from_none (length (said_in id answers))) (gave.goes_on e));
      }

  gave_opened :
      (before after : List Request) (earlier answers : List Answer) (name : List ℕ) (id at xmin : ℕ) (s mid now : AbstractStandby) (reply : Reply)
      → Talks (Step w) before (life_begins redo) earlier s
      → (admits s ≡ true → IsLeastLive w s xmin) → Opened id at ≡ reply
      → Opening w xmin s (number_named w.tables name) reply mid → Talks (Step w) after mid answers now
      → (table : ℕ) × (number_named w.tables name ≡ Some table) × (at ≡ position_of s) × GaveRows w s table id answers now
      × (said_in id earlier ≡ [])
  gave_opened before after earlier answers name id at xmin s mid now reply talked least says (Declines none) talks =
      absurd (none.not_opened id at (sym says))
  gave_opened before after earlier answers name id at xmin s mid now reply talked least says (Admits opens) talks =
      let table = opens.table in
      let sound = sound_talks w redo.0 before earlier (life_begins redo) s talked (begins_sound w redo) in
      let same = one_id id at s.next_id (position_of s) (says ∙ opens.says) in (
        table,
        opens.named,
        one_place id at s.next_id (position_of s) (says ∙ opens.says),
        gave_scan after answers name id table xmin s mid now sound (least opens.admitted) opens.named opens.admitted opens.there
            (open_there w table xmin id s mid sound.free same opens.leads) talks,
        ahead_talks w redo.0 id before earlier (life_begins redo) s (begins_sound w redo) talked (not_past s.next_id id (sym same)),
      )

pub scans_give_rows_hold :
    TablesAreApart → LogRises → ToldNumbersFit → BlocksShowVersions → AllKept → StateAlong → SeesRows → ScanGivesRows → PagesAreRows → OneRows → ScansGiveRows
scans_give_rows_hold apart rises fits shown kept along sees_rows scan_gives pages_are one_rows w redo text sized tells described legal before after earlier answers name id at s mid now talks (reply, (xmin, least, opens), says) rest =
    let logs : LogLaws = record { all_rise = rises; fits = fits; shown = shown } in
    let good : IsGood w redo.0 = record { sized = sized; tells = tells; legal = legal } in
    gave_opened apart logs kept along sees_rows scan_gives pages_are one_rows w redo text good described before after earlier answers name id at xmin s mid now reply
    talks least (one_reply (Opened id at) reply says)
    (opening_of w xmin s (number_named w.tables name) reply mid opens) rest
