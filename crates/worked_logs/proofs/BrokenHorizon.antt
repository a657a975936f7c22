-- A removal with a horizon that stays below the deleter's id breaks the clause on removals alone.
use Rattle.std.proofs.Common.{◌≡◌, ◌≢◌, ℕ, ◌≤◌, true, [], ◌∷◌, is_ok, arith, refl, sym, ◌∙◌, subst, inl, inr}
use Rattle.std.proofs.lemmas.Bool.{cases_eq, false≢true, lt-ltb, or_left, or_right}
use Rattle.pg_types.specs.Numbers.{number_at}
use Rattle.heap_tuple.specs.Tuple.{is_lock_only, is_tuple, is_tuple_head, max_of}
use Rattle.heap_page.specs.Item.{with_item}
use Rattle.heap_page.specs.Put.{put_answer, set_head_answer, set_line_answer}
use Rattle.heap_redo.specs.Redone.{grown, redone, redone_record, redone_at, redone_block, view_with, with_seen}
use Rattle.heap_redo.specs.After.{after, after_change, change_head, changed, changed_page, joined, put, put_listed, put_version, tuple_of, update, update_old, update_within, prune, redirect_lines, set_line, set_lines}
use Rattle.heap_redo.specs.TupleHeads.{deleted, head_bytes, head_of, locked, marked_mask, marked_mask2, replaced}
use Rattle.transaction_model.specs.Transactions.{committed, ended}
use Rattle.transaction_model.specs.LegalTransactions.{Legal}
use Rattle.transaction_model.proofs.NoIds.{one_among}
use Rattle.known_assigned.specs.Ids.{is_among}
use Rattle.heap_tuple.specs.declared.tuple_view.MaxOf.TheVariants.{Xid as DeletedBy}
use Rattle.std.specs.Prelude.{nat_lt}
use Rattle.xact_redo.specs.TransactionsOf.{transaction_of, transactions_of}
use Rattle.row_model.specs.Versions.{changed_at, version_at, with_step, with_steps, Version}
use Rattle.row_model.specs.Origins.{HasFailed}
use Rattle.row_model.specs.Locks.{locks, since, up_to_running}
use Rattle.row_model.specs.RowSteps.{births, births_written, block_count, count_with, deleter_of_mark, own_steps, steps_in, update_steps, version_put, version_written, versions, view_after, view_with_record, whole_steps, removals, removals_written}
use Rattle.row_model.specs.LegalSteps.{AtLeast, Covers, MayBeRemoved, NeverCommitted, Outlived, OwnDeleted, WasDeleted, WasOutlived, WasUndone}
use Rattle.row_model.specs.LegalRows.{are_apart, renews_first}
use Rattle.row_model.specs.WorkedRows.{first_row, update_by_701, worked_first, worked_ids, worked_log, worked_origin, worked_table}
use Rattle.row_model.proofs.WorkedLog.{no_locks}
use Rattle.worked_logs.specs.Clauses.{Clause, Births, Deleters, Removals, Cut, Blocks, Locks, CheckpointLocks, Multixacts, Renews, Apart, Shutdowns, Transactions, NewMultixacts, Redone, Keeps}
use Rattle.worked_logs.specs.BrokenLogs.{BreaksOnly, prune_below}
use Rattle.worked_logs.proofs.OneMore.{Adds, WorkedKeeps, bare_rule, breaks_only, no_blocks, renews_two}

-- the version at line 1
abbrev deleted_row : Version
deleted_row = record first_row { deleter = DeletedBy (record { 0 = 701 }) }

-- each id up to 700 had ended as 701 committed
low_ended : (y : ℕ) → y ≤ 700 → ended worked_ids.at y (transactions_of (update_by_701 ∷ worked_first)) ≡ true
unfolding ended transaction_of
low_ended y low =
    elim (cases_eq y 700) [
      | inl e ↦ or_left (is_among y (700 ∷ [])) _ (one_among y 700 (sym e))
      | inr other ↦ or_right (is_among y (700 ∷ [])) _ (or_left (nat_lt y 700) _ (lt-ltb y 700 (omega arith)))
    ]

not_outlived : WasOutlived worked_ids.at 700 701 (transactions_of worked_log) → ⊥
unfolding transaction_of
not_outlived (inl (commits, (y, low, live))) = false≢true (sym live.not_ended ∙ low_ended y low)
not_outlived (inr (inl (commits, (y, low, live)))) = false≢true commits
not_outlived (inr (inr (inl (commits, (y, low, live))))) = false≢true commits
not_outlived (inr (inr (inr (inl (commits, (y, low, live)))))) = false≢true commits
not_outlived (inr (inr (inr (inr (inl (commits, (y, low, live))))))) = false≢true commits
not_outlived (inr (inr (inr (inr (inr (inl (commits, (y, low, live)))))))) = false≢true commits
not_outlived (inr (inr (inr (inr (inr (inr (inl (commits, (y, low, live))))))))) = false≢true commits
not_outlived (inr (inr (inr (inr (inr (inr (inr none))))))) = none

-- so a horizon of 700 does not cover it
pub not_covered : (x : ℕ) → 701 ≡ x → Covers worked_origin worked_log 700 x → ⊥
not_covered x e (AtLeast low) = omega (arith, e, low)
not_covered x e (Outlived was) =
    not_outlived (subst (λ (n : ℕ). WasOutlived worked_ids.at 700 n (transactions_of worked_log)) (sym e) was)

-- each of both is a top transaction
one_tree : (x y : ℕ) → 700 ≡ x → 701 ≡ y → x ≡ y → ⊥
one_tree x y first second same = omega (arith, first, second, same)

no_removal : MayBeRemoved worked_origin worked_log 700 deleted_row → ⊥
unfolding committed transaction_of
no_removal (WasUndone e) = cc
no_removal (NeverCommitted x by failed) =
    let same : 700 ≡ x = cc in
    let own : HasFailed worked_origin worked_log 700 = subst (HasFailed worked_origin worked_log) (sym same) failed in
    false≢true (sym own.not_committed)
no_removal (OwnDeleted x y by deleted done same) =
    let first : 700 ≡ x = cc in
    let second : 701 ≡ y = cc in
    one_tree x y first second same
no_removal (WasDeleted y deleted done covered) =
    let same : 701 ≡ y = cc in not_covered y same (covered refl)

horizon_may : Keeps Removals worked_origin worked_table (prune_below ∷ worked_log) → MayBeRemoved worked_origin worked_log 700 deleted_row
unfolding versions block_count steps_in count_with own_steps births births_written whole_steps tuple_of head_bytes with_steps with_step version_at max_of is_lock_only number_at update_steps version_put version_written deleter_of_mark joined marked_mask changed_at removals removals_written
horizon_may keeps = keeps.0.0

horizon_redone : is_ok (view_after worked_origin (worked_table ∷ []) (prune_below ∷ worked_log)) ≡ true
unfolding view_after view_with_record redone_record redone redone_at redone_block after after_change changed_page changed put_listed put tuple_of head_bytes view_with with_seen grown put_answer set_head_answer change_head update update_within update_old put_version joined is_tuple is_tuple_head with_item number_at head_of marked_mask marked_mask2 replaced deleted locked is_lock_only prune redirect_lines set_lines set_line set_line_answer
horizon_redone = refl

horizon_adds : (clause : Clause) → clause ≢ Removals → Adds clause worked_log prune_below
unfolding versions block_count steps_in count_with own_steps births births_written whole_steps tuple_of head_bytes with_steps with_step version_at max_of is_lock_only number_at update_steps version_put version_written deleter_of_mark joined marked_mask changed_at renews_first since are_apart up_to_running locks transaction_of Legal removals removals_written
horizon_adds Births ne = (tt, tt)
horizon_adds Deleters ne = (tt, tt)
horizon_adds Removals ne = absurd (ne refl)
horizon_adds Cut ne = tt
horizon_adds Blocks ne = bare_rule worked_log (versions worked_origin worked_table worked_log) (versions worked_origin worked_table (prune_below ∷ worked_log)) 0 [] (no_blocks worked_log (versions worked_origin worked_table worked_log) (versions worked_origin worked_table (prune_below ∷ worked_log)))
horizon_adds Locks ne = no_locks worked_origin worked_table worked_log prune_below refl refl refl
horizon_adds CheckpointLocks ne = tt
horizon_adds Multixacts ne = (tt, tt)
horizon_adds Renews ne = λ redo h. renews_two (prune_below ∷ worked_log) redo h refl refl
horizon_adds Apart ne = refl
horizon_adds Shutdowns ne = refl
horizon_adds Transactions ne = λ legal. (tt, legal)
horizon_adds NewMultixacts ne = tt
horizon_adds Redone ne = horizon_redone

horizon_breaks : Keeps Removals worked_origin worked_table (prune_below ∷ worked_log) → ⊥
horizon_breaks keeps = no_removal (horizon_may keeps)

pub horizon_only : WorkedKeeps worked_log → BreaksOnly Removals (prune_below ∷ worked_log)
horizon_only keeps = breaks_only Removals worked_log prune_below keeps horizon_breaks horizon_adds
