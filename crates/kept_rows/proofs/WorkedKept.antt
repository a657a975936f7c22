-- A scan that is opened in the worked log before its update gives the first row at its end.
use Rattle.std.proofs.Common.{◌≡◌, ℕ, ◌<◌, Bool, true, false, ◌&&◌, nat_lt, List, [], ◌∷◌, Ok, arith, refl, subst, inl, inr}
use Rattle.std.proofs.lemmas.Bool.{and_parts, both_ways, cases_lt, lt-ltb, ltb-true}
use Rattle.std.proofs.lemmas.List.Elements.{All-cons, All-nil}
use Rattle.heap_tuple.specs.declared.cell.Column.{Column}
use Rattle.wal_bodies.specs.Ends.{Rises, end_of}
use Rattle.typed_records.specs.declared.types.Rec.{Rec}
use Rattle.page_store.specs.Seen.{View}
use Rattle.known_assigned.specs.Known.{after_end, after_observe, after_running, made_anew, past_oldest, unobserved}
use Rattle.known_assigned.specs.declared.state.State.TheVariants.{Ready}
use Rattle.standby_snapshot.specs.Snapshot.{take_of}
use Rattle.transaction_model.specs.Transactions.{IsXmin, Statuses, TransactionRecord, ended}
use Rattle.transaction_model.proofs.Endings.{ended_by, ended_later}
use Rattle.xact_redo.specs.Sees.{sees_by}
use Rattle.xact_redo.specs.TransactionsOf.{transaction_of, transactions_of}
use Rattle.xact_redo.specs.State.{before_records, state_after}
use Rattle.row_model.specs.Versions.{Version}
use Rattle.row_model.specs.Origins.{committed_in}
use Rattle.row_model.specs.Multixacts.{multixacts}
use Rattle.row_model.specs.Locks.{locks}
use Rattle.recovery_conflict.specs.Causes.{cause_of}
use Rattle.row_model.specs.Conflicts.{AreFree, conflicts}
use Rattle.row_model.specs.RowSteps.{block_count, count_with, versions, view_after}
use Rattle.row_model.specs.Rows.{OneRows}
use Rattle.row_model.specs.WorkedRows.{IsWorkedRows, backup_end, commit_of_700, commit_of_701, first_row, insert_by_700, nothing_runs, online_checkpoint, update_by_701, worked_first, worked_log, worked_origin, worked_start, worked_table}
use Rattle.recovery_conflict.specs.Causes.{cause_of}
use Rattle.row_visibility.specs.Sees.{HasNoStatuses, state_along}
use Rattle.row_visibility.proofs.Forgetting.{all_kept_is, all_kept_on}
use Rattle.row_pages.specs.Pages.{AreScanned}
use Rattle.kept_rows.specs.Kept.{KeepsRows}
use Rattle.kept_rows.specs.WorkedKept.{IsWorkedKept}

pub none_had : HasNoStatuses worked_origin.transactions.at
none_had x = (refl, refl)

-- the same as a test
abbrev rises : List Rec → Bool
rises [] = true
rises (rec ∷ older) = nat_lt (end_of 0 older) rec.end.0 && rises older

pub rises_tested : (log : List Rec) → rises log ≡ true → Rises 0 log
rises_tested [] h = tt
rises_tested (rec ∷ older) h =
    let (less, rest) = and_parts (nat_lt (end_of 0 older) rec.end.0) (rises older) h in
    (ltb-true (end_of 0 older) rec.end.0 less, rises_tested older rest)

log_rises : Rises 0 worked_log
log_rises = rises_tested worked_log refl

first_ready : (state_along worked_first).known.mode ≡ Ready
unfolding state_along state_after before_records after_observe after_end after_running past_oldest made_anew unobserved
first_ready = refl

-- 701 is the least live id at the opening: those below 700 had ended before the log, as its first record says, and 700 has
-- committed
pub ids_end : (x : ℕ) → x < 701 → ended worked_origin.transactions.at x (transactions_of worked_first) ≡ true
unfolding transaction_of
ids_end x less =
    let s : Statuses = worked_origin.transactions.at in
    let before : List TransactionRecord = transactions_of worked_start in
    elim (cases_lt x 700) [
      | inl below ↦
          ended_later s x (transaction_of commit_of_700) (transaction_of insert_by_700 ∷ before)
          (ended_later s x (transaction_of insert_by_700) before
          (ended_later s x (transaction_of backup_end) (transactions_of (online_checkpoint ∷ nothing_runs ∷ []))
          (ended_later s x (transaction_of online_checkpoint) (transactions_of (nothing_runs ∷ []))
          (ended_by s x (transaction_of nothing_runs) [] (lt-ltb x 700 below)))))
      | inr from ↦
          let is : 700 ≡ x = omega arith in
          subst (λ (n : ℕ). ended s n (transactions_of worked_first) ≡ true) is
          (ended_by s 700 (transaction_of commit_of_700) (transaction_of insert_by_700 ∷ before) refl)
    ]

first_xmin : IsXmin worked_origin.transactions.at 701 (transactions_of worked_first)
unfolding ended transaction_of
first_xmin =
    record {
      live = record { normal = omega arith; not_ended = refl };
      least =
          λ x live.
          elim (cases_lt x 701) [
            | inl less ↦ absurd (both_ways (ended worked_origin.transactions.at x (transactions_of worked_first)) live.not_ended (ids_end x less))
            | inr from ↦ from
          ];
    }

-- no lock is taken before it
none_locked : locks worked_origin worked_table worked_first ≡ []
unfolding locks
none_locked = refl

-- the update and its commit remove and freeze nothing, and lock nothing
later_free : AreFree worked_origin worked_table 701 (commit_of_701 ∷ update_by_701 ∷ [])
unfolding cause_of
later_free =
    let P : Rec → Type 0 = λ rec. conflicts worked_origin worked_table 701 rec ≡ false in
    All-cons P commit_of_701 (update_by_701 ∷ []) refl (All-cons P update_by_701 [] refl (All-nil P))

one_block : block_count worked_origin worked_table worked_first ≡ 1
unfolding block_count count_with
one_block = refl

first_kept :
    KeepsRows → OneRows → IsWorkedRows → (view : View) (columns : List Column)
    → view_after worked_origin (worked_table ∷ []) worked_log ≡ Ok view
    → AreScanned columns (sees_by (take_of (state_along worked_first).known) (state_along worked_log)) 1 (view 0) (first_row ∷ [])
first_kept keeps one worked view columns done =
    let (rows, are, scanned) =
    keeps worked_origin (worked_table ∷ []) (commit_of_701 ∷ update_by_701 ∷ []) worked_first view 0 worked_table columns 701
    (state_along worked_first) (state_along worked_log) refl worked.empty none_had worked.legal log_rises worked.fits
    (all_kept_is worked_first) first_ready
    (all_kept_on (commit_of_701 ∷ update_by_701 ∷ []) worked_first (take_of (state_along worked_first).known).xmin) first_xmin
    refl none_locked later_free done in
    let same : rows ≡ first_row ∷ [] =
    one (multixacts worked_first) (committed_in worked_origin worked_first) (versions worked_origin worked_table worked_first) rows
    (first_row ∷ []) are worked.first in
    subst
    (λ (n : ℕ). AreScanned columns (sees_by (take_of (state_along worked_first).known) (state_along worked_log)) n (view 0) (first_row ∷ []))
    one_block
    (subst
    (λ (found : List Version). AreScanned columns (sees_by (take_of (state_along worked_first).known) (state_along worked_log)) (block_count worked_origin worked_table worked_first) (view 0) found)
    same scanned)

pub worked_kept_is : KeepsRows → OneRows → IsWorkedRows → IsWorkedKept
worked_kept_is keeps one worked =
    record {
      none = none_had;
      rises = log_rises;
      ready = first_ready;
      xmin = first_xmin;
      present = refl;
      unlocked = none_locked;
      free = later_free;
      kept = first_kept keeps one worked;
    }
