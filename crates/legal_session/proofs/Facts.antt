-- What the log of a standby gives: it is legal, its records rise and fit, and the blocks show the versions.
use Rattle.std.proofs.Common.{◌≡◌, ℕ, ◌<◌, Bool, false, nat_lt, List, [], ◌∷◌, ◌++◌, All, Result, Some, Ok, Err, arith, refl, sym, ap, ◌∙◌, inl, inr}
use Rattle.std.proofs.lemmas.Bool.{cases_order, false≢true, le-ltb, lt-ltb}
use Rattle.typed_records.specs.declared.types.Rec.{Rec}
use Rattle.wal_bodies.specs.Ends.{Rises}
use Rattle.heap_redo.specs.declared.fault.RedoFault.{RedoFault}
use Rattle.heap_redo.specs.Redone.{redone_record, table_of, view_outcome}
use Rattle.page_store.specs.Seen.{View, Seen, absent, bad_block, seen_page}
use Rattle.record_numbers.specs.Bytes.{TellsBytes}
use Rattle.record_numbers.specs.Fits.{RecordFits}
use Rattle.record_numbers.specs.Laws.{ToldNumbersFit}
use Rattle.row_model.specs.Versions.{Version}
use Rattle.row_model.specs.Origins.{BeginsEmpty, LogOrigin}
use Rattle.row_model.specs.RowSteps.{block_count, versions, view_after, view_with_record}
use Rattle.row_model.specs.LegalRows.{LegalLog}
use Rattle.row_model.specs.Locks.{is_gone}
use Rattle.row_model.specs.Shown.{ShowsSeen, ShowsTable}
use Rattle.row_redo.specs.Shown.{BlocksShowVersions}
use Rattle.row_visibility.specs.Sees.{NoneBelowXmin, StateAlong, XminAlong}
use Rattle.kept_rows.specs.Kept.{KeepsRows}
use Rattle.table_schema.specs.Description.{locators}
use Rattle.table_schema.specs.Laws.{TablesAreApart}
use Rattle.table_schema.specs.Tables.{file_of}
use Rattle.standby_model.specs.Laws.{LogRises}
use Rattle.standby_model.specs.Log.{Described, Stands}
use Rattle.standby_core.specs.Scans.{is_there}
use Rattle.standby_core.specs.Standby.{described_in}
use Rattle.wal_reader.specs.Told.{Told}
use Rattle.legal_session.proofs.Fitting.{all_fit}
use Rattle.legal_session.specs.AbstractStandby.{IsLegal, World, log_origin}

-- what the laws of the lower layers say of a log
pub record LogLaws : Type 0 where
  pub all_rise : LogRises
  pub fits : ToldNumbersFit
  pub shown : BlocksShowVersions

-- and of what is read over it
pub record Laws : Type 0 where
  pub logs : LogLaws
  pub apart : TablesAreApart
  pub along : StateAlong
  pub xmin : XminAlong
  pub none_below : NoneBelowXmin
  pub keeps : KeepsRows

-- what a standby lives in is as the laws ask for
pub record IsGood (w : World) (start : ℕ) : Type 0 where
  pub sized : 0 < w.told.segsize
  pub tells : TellsBytes w.told
  pub legal : IsLegal w start

-- a log that rises from a position does
rises_too : (from : ℕ) (log : List Rec) → Rises from log → Rises 0 log
rises_too from [] rises = tt
rises_too from (rec ∷ []) (onward, rises) = (omega (arith, onward), tt)
rises_too from (rec ∷ older ∷ log) (onward, rises) = (onward, rises_too from (older ∷ log) rises)

-- a front of a log that stands does
pub stood : (told : Told) (described : Described) (from : ℕ) (later opened : List Rec) → Stands told described from (later ++ opened) → Stands told described from opened
stood told described from [] opened stands = stands
stood told described from (rec ∷ later) opened (next, stands) = stood told described from later opened stands

-- the log begins with empty tables
pub begins_empty : (w : World) → BeginsEmpty (log_origin w)
begins_empty w = record { tables = λ table. refl; none_committed = λ x. refl; none_aborted = λ x. refl }

-- whether a block is there
pub seen_there :
    (o : LogOrigin) (log : List Rec) (vs : List Version) (count block : ℕ) (seen : Seen)
    → ShowsSeen o log vs count block seen → is_there seen ≡ nat_lt block count
seen_there o log vs count block absent (past, none) = sym (le-ltb block count past)
seen_there o log vs count block bad_block h = absurd h
seen_there o log vs count block (seen_page lsn items) (in_table, shows) = sym (lt-ltb block count in_table)

module _ (laws : LogLaws) (w : World) (start : ℕ) (good : IsGood w start) (log : List Rec) (stands : Stands w.told (described_in w.tables) start log) where
  pub legal_log : LegalLog (log_origin w) (locators w.tables) log
  legal_log = good.legal log stands

  pub log_rises : Rises 0 log
  log_rises = rises_too start log (laws.all_rise w.told (described_in w.tables) start log good.sized stands)

  pub log_fits : All RecordFits log
  log_fits = all_fit laws.fits w.told (described_in w.tables) start log good.tells stands

  pub table_shown :
      (view : View) (table : ℕ) → view_after (log_origin w) (locators w.tables) log ≡ Ok view
      → table_of (locators w.tables) (file_of w.tables table) ≡ Some table → is_gone (file_of w.tables table) log ≡ false
      → ShowsTable (log_origin w) log (versions (log_origin w) (file_of w.tables table) log)
      (block_count (log_origin w) (file_of w.tables table) log) (view table)
  table_shown view table is described there =
      laws.shown (log_origin w) (locators w.tables) log view table (file_of w.tables table) described (begins_empty w) legal_log log_rises log_fits is there

-- where the outcome of redo gives blocks, there was no fault
left_is :
    (outcome : View × Result (Unit {0}) RedoFault) (view : View) → view_outcome outcome.0 outcome.1 ≡ Ok view → outcome ≡ (view, Ok tt)
left_is (blocks, Ok done) view e =
    ap done_with (one_view blocks view e)
  where
    one_view : (a b : View) → ◌≡◌ {A = Result View RedoFault} (Ok a) (Ok b) → a ≡ b
    one_view a b e = cc

    done_with : View → View × Result (Unit {0}) RedoFault
    done_with view = (view, Ok tt)
left_is (blocks, Err fault) view e = cc

-- where redo of a log meets no refusal, its last record leaves the blocks of the log
pub redone_is :
    (w : World) (rec : Rec) (older : List Rec) (was view : View) → view_after (log_origin w) (locators w.tables) older ≡ Ok was
    → view_after (log_origin w) (locators w.tables) (rec ∷ older) ≡ Ok view
    → redone_record rec (locators w.tables) was ≡ (view, Ok tt)
unfolding view_after view_with_record
redone_is w rec older was view before after =
    left_is (redone_record rec (locators w.tables) was) view
    (sym (ap (λ (r : Result View RedoFault). view_with_record rec (locators w.tables) r) before) ∙ after)

-- one number is that of the blocks
not_less :
    (there : ℕ → Bool) (m n : ℕ) → ((block : ℕ) → there block ≡ nat_lt block m) → ((block : ℕ) → there block ≡ nat_lt block n)
    → m < n → ⊥
not_less there m n a b less =
    false≢true (sym (le-ltb m m (omega arith)) ∙ sym (a m) ∙ b m ∙ lt-ltb m n less)

pub one_count :
    (there : ℕ → Bool) (m n : ℕ) → ((block : ℕ) → there block ≡ nat_lt block m) → ((block : ℕ) → there block ≡ nat_lt block n) → m ≡ n
one_count there m n a b =
    elim (cases_order m n) [
      | inl e ↦ e
      | inr (inl less) ↦ absurd (not_less there m n a b less)
      | inr (inr more) ↦ absurd (not_less there n m b a more)
    ]
