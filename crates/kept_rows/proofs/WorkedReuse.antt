-- A scan that is opened before a vacuum frees the first row's line gives the second row once a third stands there.
use Rattle.std.proofs.Common.{◌≡◌, ℕ, ◌<◌, true, false, List, [], ◌∷◌, All, Some, Ok, arith, refl, subst, inl, inr}
use Rattle.std.proofs.lemmas.Bool.{both_ways, cases_lt}
use Rattle.std.proofs.lemmas.List.Elements.{All-cons, All-nil, All-tail}
use Rattle.std.proofs.lemmas.List.Sorted.{IsPermutation-refl}
use Rattle.pg_types.specs.Numbers.{number_at}
use Rattle.heap_tuple.specs.Tuple.{is_lock_only, max_of}
use Rattle.heap_tuple.specs.declared.cell.Column.{Column}
use Rattle.typed_records.specs.declared.types.Rec.{Rec}
use Rattle.heap_redo.specs.TupleHeads.{head_bytes, marked_mask}
use Rattle.heap_redo.specs.After.{tuple_of}
use Rattle.page_store.specs.Seen.{View}
use Rattle.record_numbers.specs.Fits.{RecordFits}
use Rattle.known_assigned.specs.Known.{after_end, after_observe, after_running, made_anew, past_oldest, unobserved}
use Rattle.known_assigned.specs.declared.state.State.TheVariants.{Ready}
use Rattle.standby_snapshot.specs.Snapshot.{take_of}
use Rattle.transaction_model.specs.Transactions.{IsXmin, committed, ended}
use Rattle.transaction_model.proofs.Endings.{ended_by, ended_later}
use Rattle.xact_redo.specs.Sees.{sees_by}
use Rattle.xact_redo.specs.State.{before_records, state_after}
use Rattle.xact_redo.specs.TransactionsOf.{transaction_of, transactions_of}
use Rattle.row_model.specs.Versions.{Version, changed_at, version_at, with_step, with_steps}
use Rattle.row_model.specs.Origins.{committed_in}
use Rattle.row_model.specs.Multixacts.{multixacts}
use Rattle.recovery_conflict.specs.Causes.{cause_of}
use Rattle.row_model.specs.Conflicts.{AreFree, conflicts}
use Rattle.row_model.specs.Locks.{locks}
use Rattle.row_model.specs.RowSteps.{births, births_written, block_count, count_with, deleter_of_mark, freezes_in, frozen_written, own_steps, removals, removals_written, steps_in, versions, view_after, whole_steps}
use Rattle.row_model.specs.Rows.{IsRows, OneRows}
use Rattle.row_model.specs.WorkedRows.{IsWorkedRows, commit_of_701, update_by_701, worked_first, worked_origin, worked_table}
use Rattle.recovery_conflict.specs.Causes.{cause_of}
use Rattle.row_visibility.specs.Sees.{state_along}
use Rattle.row_visibility.proofs.Forgetting.{all_kept_is, all_kept_on}
use Rattle.row_pages.specs.Pages.{AreScanned}
use Rattle.kept_rows.specs.Kept.{KeepsRows}
use Rattle.kept_rows.specs.WorkedReuse.{IsWorkedReuse, commit_second, commit_third, delete_first, free_first, freeze_second, insert_second, insert_third, prune_first, reuse_later, reuse_log, reuse_opened, second_version, third_version}
use Rattle.kept_rows.proofs.ReuseLog.{reuse_fits, reuse_legal}
use Rattle.kept_rows.proofs.WorkedKept.{ids_end, none_had, rises_tested}

-- 702 is the least live id at the opening
ids_end_then : (x : ℕ) → x < 702 → ended worked_origin.transactions.at x (transactions_of reuse_opened) ≡ true
unfolding transaction_of
ids_end_then x less =
    elim (cases_lt x 701) [
      | inl below ↦
          ended_later worked_origin.transactions.at x (transaction_of commit_second) (transactions_of (delete_first ∷ insert_second ∷ worked_first))
          (ended_later worked_origin.transactions.at x (transaction_of delete_first) (transactions_of (insert_second ∷ worked_first))
          (ended_later worked_origin.transactions.at x (transaction_of insert_second) (transactions_of worked_first) (ids_end x below)))
      | inr from ↦
          let is : 701 ≡ x = omega arith in
          subst (λ (n : ℕ). ended worked_origin.transactions.at n (transactions_of reuse_opened) ≡ true) is
          (ended_by worked_origin.transactions.at 701 (transaction_of commit_second) (transactions_of (delete_first ∷ insert_second ∷ worked_first)) refl)
    ]

reuse_xmin : IsXmin worked_origin.transactions.at 702 (transactions_of reuse_opened)
unfolding ended transaction_of
reuse_xmin =
    record {
      live = record { normal = omega arith; not_ended = refl };
      least =
          λ x live.
          elim (cases_lt x 702) [
            | inl less ↦ absurd (both_ways (ended worked_origin.transactions.at x (transactions_of reuse_opened)) live.not_ended (ids_end_then x less))
            | inr from ↦ from
          ];
    }

none_locked : locks worked_origin worked_table reuse_opened ≡ []
unfolding locks
none_locked = refl

-- the horizons are 701
reuse_free : AreFree worked_origin worked_table 702 reuse_later
unfolding cause_of
reuse_free =
    let P : Rec → Type 0 = λ rec. conflicts worked_origin worked_table 702 rec ≡ false in
    All-cons P commit_third (insert_third ∷ free_first ∷ freeze_second ∷ prune_first ∷ []) refl
    (All-cons P insert_third (free_first ∷ freeze_second ∷ prune_first ∷ []) refl
    (All-cons P free_first (freeze_second ∷ prune_first ∷ []) refl
    (All-cons P freeze_second (prune_first ∷ []) refl (All-cons P prune_first [] refl (All-nil P)))))

reuse_ready : (state_along reuse_opened).known.mode ≡ Ready
unfolding state_along state_after before_records after_observe after_end after_running past_oldest made_anew unobserved
reuse_ready = refl

one_block : block_count worked_origin worked_table reuse_opened ≡ 1
unfolding block_count count_with
one_block = refl

-- the rows at the opening
reuse_rows : IsRows (multixacts reuse_opened) (committed_in worked_origin reuse_opened) (versions worked_origin worked_table reuse_opened) (second_version ∷ [])
unfolding committed transaction_of versions block_count steps_in count_with own_steps births births_written whole_steps tuple_of head_bytes with_steps with_step version_at max_of is_lock_only number_at deleter_of_mark marked_mask changed_at
reuse_rows = record { same = IsPermutation-refl (second_version ∷ []); in_order = (tt, tt) }

reused_place : version_at 0 1 (versions worked_origin worked_table reuse_log) ≡ Some third_version
unfolding versions block_count steps_in count_with own_steps births births_written whole_steps tuple_of head_bytes with_steps with_step version_at max_of is_lock_only number_at deleter_of_mark marked_mask changed_at removals removals_written freezes_in frozen_written
reused_place = refl

first_fit : IsWorkedRows → All RecordFits worked_first
first_fit worked =
    All-tail RecordFits update_by_701 worked_first (All-tail RecordFits commit_of_701 (update_by_701 ∷ worked_first) worked.fits)

reuse_kept :
    KeepsRows → OneRows → IsWorkedRows → (view : View) (columns : List Column)
    → view_after worked_origin (worked_table ∷ []) reuse_log ≡ Ok view
    → AreScanned columns (sees_by (take_of (state_along reuse_opened).known) (state_along reuse_log)) 1 (view 0) (second_version ∷ [])
reuse_kept keeps one worked view columns done =
    let (rows, are, scanned) =
    keeps worked_origin (worked_table ∷ []) reuse_later reuse_opened view 0 worked_table columns 702
    (state_along reuse_opened) (state_along reuse_log) refl worked.empty none_had (reuse_legal worked)
    (rises_tested reuse_log refl) (reuse_fits (first_fit worked)) (all_kept_is reuse_opened) reuse_ready
    (all_kept_on reuse_later reuse_opened (take_of (state_along reuse_opened).known).xmin) reuse_xmin refl none_locked
    reuse_free done in
    let same : rows ≡ second_version ∷ [] =
    one (multixacts reuse_opened) (committed_in worked_origin reuse_opened) (versions worked_origin worked_table reuse_opened) rows
    (second_version ∷ []) are reuse_rows in
    subst
    (λ (n : ℕ). AreScanned columns (sees_by (take_of (state_along reuse_opened).known) (state_along reuse_log)) n (view 0) (second_version ∷ []))
    one_block
    (subst
    (λ (found : List Version). AreScanned columns (sees_by (take_of (state_along reuse_opened).known) (state_along reuse_log)) (block_count worked_origin worked_table reuse_opened) (view 0) found)
    same scanned)

pub worked_reuse_is : KeepsRows → OneRows → IsWorkedRows → IsWorkedReuse
unfolding cause_of
worked_reuse_is keeps one worked =
    record {
      legal = reuse_legal worked;
      rises = rises_tested reuse_log refl;
      fits = reuse_fits (first_fit worked);
      ready = reuse_ready;
      xmin = reuse_xmin;
      present = refl;
      unlocked = none_locked;
      free = reuse_free;
      conflict = refl;
      rows = reuse_rows;
      reused = reused_place;
      kept = reuse_kept keeps one worked;
    }
