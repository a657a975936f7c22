-- A removal of a row that stands breaks the clause on removals alone.
use Rattle.std.proofs.Common.{◌≡◌, ◌≢◌, ℕ, true, [], ◌∷◌, is_ok, refl, sym, subst}
use Rattle.std.proofs.lemmas.Bool.{false≢true}
use Rattle.pg_types.specs.Numbers.{number_at}
use Rattle.heap_tuple.specs.Tuple.{is_lock_only, is_tuple, is_tuple_head, max_of}
use Rattle.heap_page.specs.Item.{with_item}
use Rattle.heap_page.specs.Put.{put_answer, set_head_answer, set_line_answer}
use Rattle.heap_redo.specs.Redone.{grown, redone, redone_record, redone_at, redone_block, view_with, with_seen}
use Rattle.heap_redo.specs.After.{after, after_change, change_head, changed, changed_page, joined, put, put_listed, put_version, tuple_of, update, update_old, update_within, prune, redirect_lines, set_line, set_lines}
use Rattle.heap_redo.specs.TupleHeads.{deleted, head_bytes, head_of, locked, marked_mask, marked_mask2, replaced}
use Rattle.transaction_model.specs.Transactions.{committed}
use Rattle.transaction_model.specs.LegalTransactions.{Legal}
use Rattle.xact_redo.specs.TransactionsOf.{transaction_of}
use Rattle.row_model.specs.Versions.{changed_at, version_at, with_step, with_steps}
use Rattle.row_model.specs.Origins.{HasFailed}
use Rattle.row_model.specs.Locks.{locks, since, up_to_running}
use Rattle.row_model.specs.RowSteps.{births, births_written, block_count, count_with, deleter_of_mark, own_steps, steps_in, update_steps, version_put, version_written, versions, view_after, view_with_record, whole_steps, removals, removals_written}
use Rattle.row_model.specs.LegalSteps.{MayBeRemoved, NeverCommitted, OwnDeleted, WasDeleted, WasUndone}
use Rattle.row_model.specs.LegalRows.{are_apart, renews_first}
use Rattle.row_model.specs.WorkedRows.{second_row, worked_log, worked_origin, worked_table}
use Rattle.row_model.proofs.WorkedLog.{no_locks}
use Rattle.worked_logs.specs.Clauses.{Clause, Births, Deleters, Removals, Cut, Blocks, Locks, CheckpointLocks, Multixacts, Renews, Apart, Shutdowns, Transactions, NewMultixacts, Redone, Keeps}
use Rattle.worked_logs.specs.BrokenLogs.{BreaksOnly, prune_of_row}
use Rattle.worked_logs.proofs.OneMore.{Adds, WorkedKeeps, bare_rule, breaks_only, no_blocks, renews_two}

-- 701, which inserted it, committed, and no transaction deleted it
no_removal : (horizon : ℕ) → MayBeRemoved worked_origin worked_log horizon second_row → ⊥
unfolding committed transaction_of
no_removal horizon (WasUndone e) = cc
no_removal horizon (NeverCommitted x by failed) =
    let same : 701 ≡ x = cc in
    let own : HasFailed worked_origin worked_log 701 = subst (HasFailed worked_origin worked_log) (sym same) failed in
    false≢true (sym own.not_committed)
no_removal horizon (OwnDeleted x y by e done same) = cc
no_removal horizon (WasDeleted y e done covered) = cc

removals_may : Keeps Removals worked_origin worked_table (prune_of_row ∷ worked_log) → MayBeRemoved worked_origin worked_log 701 second_row
unfolding versions block_count steps_in count_with own_steps births births_written whole_steps tuple_of head_bytes with_steps with_step version_at max_of is_lock_only number_at update_steps version_put version_written deleter_of_mark joined marked_mask changed_at removals removals_written
removals_may keeps = keeps.0.0

removals_redone : is_ok (view_after worked_origin (worked_table ∷ []) (prune_of_row ∷ worked_log)) ≡ true
unfolding view_after view_with_record redone_record redone redone_at redone_block after after_change changed_page changed put_listed put tuple_of head_bytes view_with with_seen grown put_answer set_head_answer change_head update update_within update_old put_version joined is_tuple is_tuple_head with_item number_at head_of marked_mask marked_mask2 replaced deleted locked is_lock_only prune redirect_lines set_lines set_line set_line_answer
removals_redone = refl

removals_adds : (clause : Clause) → clause ≢ Removals → Adds clause worked_log prune_of_row
unfolding versions block_count steps_in count_with own_steps births births_written whole_steps tuple_of head_bytes with_steps with_step version_at max_of is_lock_only number_at update_steps version_put version_written deleter_of_mark joined marked_mask changed_at renews_first since are_apart up_to_running locks transaction_of Legal removals removals_written
removals_adds Births ne = (tt, tt)
removals_adds Deleters ne = (tt, tt)
removals_adds Removals ne = absurd (ne refl)
removals_adds Cut ne = tt
removals_adds Blocks ne = bare_rule worked_log (versions worked_origin worked_table worked_log) (versions worked_origin worked_table (prune_of_row ∷ worked_log)) 0 [] (no_blocks worked_log (versions worked_origin worked_table worked_log) (versions worked_origin worked_table (prune_of_row ∷ worked_log)))
removals_adds Locks ne = no_locks worked_origin worked_table worked_log prune_of_row refl refl refl
removals_adds CheckpointLocks ne = tt
removals_adds Multixacts ne = (tt, tt)
removals_adds Renews ne = λ redo h. renews_two (prune_of_row ∷ worked_log) redo h refl refl
removals_adds Apart ne = refl
removals_adds Shutdowns ne = refl
removals_adds Transactions ne = λ legal. (tt, legal)
removals_adds NewMultixacts ne = tt
removals_adds Redone ne = removals_redone

removals_breaks : Keeps Removals worked_origin worked_table (prune_of_row ∷ worked_log) → ⊥
removals_breaks keeps = no_removal 701 (removals_may keeps)

pub removals_only : WorkedKeeps worked_log → BreaksOnly Removals (prune_of_row ∷ worked_log)
removals_only keeps = breaks_only Removals worked_log prune_of_row keeps removals_breaks removals_adds
