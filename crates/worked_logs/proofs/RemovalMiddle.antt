-- An insertion that is rolled back, and whose tuple is pruned and freed, keeps each clause.
use Rattle.std.proofs.Common.{◌≡◌, true, false, [], ◌∷◌, None, is_ok, arith, refl}
use Rattle.std.proofs.lemmas.Bool.{false≢true}
use Rattle.pg_types.specs.Numbers.{number_at}
use Rattle.heap_tuple.specs.Tuple.{is_lock_only, is_tuple, is_tuple_head, max_of}
use Rattle.heap_page.specs.Item.{with_item}
use Rattle.heap_page.specs.Put.{put_answer, set_head_answer, set_line_answer}
use Rattle.heap_redo.specs.Redone.{grown, redone, redone_record, redone_at, redone_block, view_with, with_seen}
use Rattle.heap_redo.specs.After.{after, after_change, change_head, changed, changed_page, joined, put, put_listed, put_version, tuple_of, update, update_old, update_within, freeze, freeze_lines, prune, redirect_line, redirect_lines, set_line, set_lines}
use Rattle.heap_redo.specs.TupleHeads.{deleted, head_bytes, head_of, locked, marked_mask, marked_mask2, replaced}
use Rattle.transaction_model.specs.Transactions.{Live, committed, ended}
use Rattle.transaction_model.specs.LegalTransactions.{Legal, AbortRule}
use Rattle.xact_redo.specs.TransactionsOf.{transaction_of, transactions_of}
use Rattle.row_model.specs.Versions.{changed_at, version_at, with_step, with_steps, deleter_of_plan}
use Rattle.row_model.specs.Origins.{HasFailed}
use Rattle.row_model.specs.Locks.{locks, since, up_to_running}
use Rattle.row_model.specs.RowSteps.{births, births_written, block_count, count_with, deleter_of_mark, own_steps, steps_in, update_steps, version_put, version_written, versions, view_after, view_with_record, whole_steps, freezes_in, frozen_written, removals, removals_written}
use Rattle.row_model.specs.LegalSteps.{NeverCommitted, Unmarked}
use Rattle.row_model.specs.LegalRows.{are_apart, renews_first}
use Rattle.row_model.specs.WorkedRows.{first_tuple, worked_ids, worked_origin, worked_table}
use Rattle.row_model.proofs.WorkedLog.{no_locks}
use Rattle.worked_logs.specs.Clauses.{Clause, Births, Deleters, Removals, Cut, Blocks, Locks, CheckpointLocks, Multixacts, Renews, Apart, Shutdowns, Transactions, NewMultixacts, Redone}
use Rattle.worked_logs.proofs.OneMore.{Adds, WorkedKeeps, each_keeps, no_blocks, one_block, renews_two}
use Rattle.row_model.proofs.WorkedIds.{commit_rule}
use Rattle.worked_logs.specs.RemovalLog.{abort_of_702, frozen_log, insert_that_fails, inserted_log, prune_of_failed, vacuum_of_line, vacuumed_log}

live_702 : Live worked_ids.at 702 (transactions_of frozen_log)
unfolding ended transaction_of
live_702 = record { normal = omega arith; not_ended = refl }

insert_redone : is_ok (view_after worked_origin (worked_table ∷ []) (insert_that_fails ∷ frozen_log)) ≡ true
unfolding view_after view_with_record redone_record redone redone_at redone_block after after_change changed_page changed put_listed put tuple_of head_bytes view_with with_seen grown put_answer set_head_answer change_head update update_within update_old put_version joined is_tuple is_tuple_head with_item number_at head_of marked_mask marked_mask2 replaced deleted locked is_lock_only prune redirect_lines redirect_line set_lines set_line set_line_answer freeze freeze_lines
insert_redone = refl

insert_adds : (clause : Clause) → Adds clause frozen_log insert_that_fails
unfolding versions block_count steps_in count_with own_steps births births_written whole_steps tuple_of head_bytes with_steps with_step version_at max_of is_lock_only number_at update_steps version_put version_written deleter_of_mark joined marked_mask changed_at renews_first since are_apart up_to_running locks transaction_of Legal removals removals_written freezes_in frozen_written deleter_of_plan
insert_adds Births = (record { free = refl; live = live_702; inserter = Unmarked refl; unmarked = refl; spent = λ outside. tt }, tt)
insert_adds Deleters = (tt, tt)
insert_adds Removals = (tt, tt)
insert_adds Cut = tt
insert_adds Blocks = one_block frozen_log (versions worked_origin worked_table frozen_log) (versions worked_origin worked_table (insert_that_fails ∷ frozen_log)) (record { id = 0; locator = worked_table; block = 1; will_init = true; image = None; tuples = first_tuple ∷ [] }) (λ e. (tt, λ new line. refl))
insert_adds Locks = no_locks worked_origin worked_table frozen_log insert_that_fails refl refl refl
insert_adds CheckpointLocks = tt
insert_adds Multixacts = (tt, tt)
insert_adds Renews = λ redo h. renews_two (insert_that_fails ∷ frozen_log) redo h refl refl
insert_adds Apart = refl
insert_adds Shutdowns = refl
insert_adds Transactions = λ legal. (tt, legal)
insert_adds NewMultixacts = tt
insert_adds Redone = insert_redone

runs_on : Live worked_ids.at 702 (transactions_of inserted_log)
unfolding ended transaction_of
runs_on = record { normal = omega arith; not_ended = refl }

-- it has no subtransactions
abort_rule : AbortRule worked_ids 702 [] (transactions_of inserted_log)
abort_rule =
    let alone = commit_rule 702 (transactions_of inserted_log) runs_on in
    record { live = alone.live; are_subs = alone.are_subs; all = alone.all }

abort_redone : is_ok (view_after worked_origin (worked_table ∷ []) (abort_of_702 ∷ inserted_log)) ≡ true
unfolding view_after view_with_record redone_record redone redone_at redone_block after after_change changed_page changed put_listed put tuple_of head_bytes view_with with_seen grown put_answer set_head_answer change_head update update_within update_old put_version joined is_tuple is_tuple_head with_item number_at head_of marked_mask marked_mask2 replaced deleted locked is_lock_only prune redirect_lines redirect_line set_lines set_line set_line_answer freeze freeze_lines
abort_redone = refl

abort_adds : (clause : Clause) → Adds clause inserted_log abort_of_702
unfolding versions block_count steps_in count_with own_steps births births_written whole_steps tuple_of head_bytes with_steps with_step version_at max_of is_lock_only number_at update_steps version_put version_written deleter_of_mark joined marked_mask changed_at renews_first since are_apart up_to_running locks transaction_of Legal removals removals_written freezes_in frozen_written deleter_of_plan
abort_adds Births = tt
abort_adds Deleters = tt
abort_adds Removals = tt
abort_adds Cut = tt
abort_adds Blocks = no_blocks inserted_log (versions worked_origin worked_table inserted_log) (versions worked_origin worked_table (abort_of_702 ∷ inserted_log))
abort_adds Locks = no_locks worked_origin worked_table inserted_log abort_of_702 refl refl refl
abort_adds CheckpointLocks = tt
abort_adds Multixacts = tt
abort_adds Renews = λ redo h. renews_two (abort_of_702 ∷ inserted_log) redo h refl refl
abort_adds Apart = refl
abort_adds Shutdowns = refl
abort_adds Transactions = λ legal. (abort_rule, legal)
abort_adds NewMultixacts = tt
abort_adds Redone = abort_redone

failed_702 : HasFailed worked_origin (abort_of_702 ∷ inserted_log) 702
unfolding committed ended transaction_of
failed_702 = record { has_ended = refl; not_committed = refl }

failed_redone : is_ok (view_after worked_origin (worked_table ∷ []) (prune_of_failed ∷ (abort_of_702 ∷ inserted_log))) ≡ true
unfolding view_after view_with_record redone_record redone redone_at redone_block after after_change changed_page changed put_listed put tuple_of head_bytes view_with with_seen grown put_answer set_head_answer change_head update update_within update_old put_version joined is_tuple is_tuple_head with_item number_at head_of marked_mask marked_mask2 replaced deleted locked is_lock_only prune redirect_lines redirect_line set_lines set_line set_line_answer freeze freeze_lines
failed_redone = refl

failed_adds : (clause : Clause) → Adds clause (abort_of_702 ∷ inserted_log) prune_of_failed
unfolding versions block_count steps_in count_with own_steps births births_written whole_steps tuple_of head_bytes with_steps with_step version_at max_of is_lock_only number_at update_steps version_put version_written deleter_of_mark joined marked_mask changed_at renews_first since are_apart up_to_running locks transaction_of Legal removals removals_written freezes_in frozen_written deleter_of_plan
failed_adds Births = (tt, tt)
failed_adds Deleters = (tt, tt)
failed_adds Removals = (NeverCommitted 702 refl failed_702, tt)
failed_adds Cut = tt
failed_adds Blocks = one_block (abort_of_702 ∷ inserted_log) (versions worked_origin worked_table (abort_of_702 ∷ inserted_log)) (versions worked_origin worked_table (prune_of_failed ∷ (abort_of_702 ∷ inserted_log))) (record { id = 0; locator = worked_table; block = 1; will_init = false; image = None; tuples = [] }) (λ e. (tt, λ new. absurd (false≢true new)))
failed_adds Locks = no_locks worked_origin worked_table (abort_of_702 ∷ inserted_log) prune_of_failed refl refl refl
failed_adds CheckpointLocks = tt
failed_adds Multixacts = (tt, tt)
failed_adds Renews = λ redo h. renews_two (prune_of_failed ∷ (abort_of_702 ∷ inserted_log)) redo h refl refl
failed_adds Apart = refl
failed_adds Shutdowns = refl
failed_adds Transactions = λ legal. (tt, legal)
failed_adds NewMultixacts = tt
failed_adds Redone = failed_redone

vacuum_redone : is_ok (view_after worked_origin (worked_table ∷ []) (vacuum_of_line ∷ (prune_of_failed ∷ abort_of_702 ∷ inserted_log))) ≡ true
unfolding view_after view_with_record redone_record redone redone_at redone_block after after_change changed_page changed put_listed put tuple_of head_bytes view_with with_seen grown put_answer set_head_answer change_head update update_within update_old put_version joined is_tuple is_tuple_head with_item number_at head_of marked_mask marked_mask2 replaced deleted locked is_lock_only prune redirect_lines redirect_line set_lines set_line set_line_answer freeze freeze_lines
vacuum_redone = refl

vacuum_adds : (clause : Clause) → Adds clause (prune_of_failed ∷ abort_of_702 ∷ inserted_log) vacuum_of_line
unfolding versions block_count steps_in count_with own_steps births births_written whole_steps tuple_of head_bytes with_steps with_step version_at max_of is_lock_only number_at update_steps version_put version_written deleter_of_mark joined marked_mask changed_at renews_first since are_apart up_to_running locks transaction_of Legal removals removals_written freezes_in frozen_written deleter_of_plan
vacuum_adds Births = (tt, tt)
vacuum_adds Deleters = (tt, tt)
vacuum_adds Removals = (tt, tt)
vacuum_adds Cut = tt
vacuum_adds Blocks = one_block (prune_of_failed ∷ abort_of_702 ∷ inserted_log) (versions worked_origin worked_table (prune_of_failed ∷ abort_of_702 ∷ inserted_log)) (versions worked_origin worked_table (vacuum_of_line ∷ (prune_of_failed ∷ abort_of_702 ∷ inserted_log))) (record { id = 0; locator = worked_table; block = 1; will_init = false; image = None; tuples = [] }) (λ e. (tt, λ new. absurd (false≢true new)))
vacuum_adds Locks = no_locks worked_origin worked_table (prune_of_failed ∷ abort_of_702 ∷ inserted_log) vacuum_of_line refl refl refl
vacuum_adds CheckpointLocks = tt
vacuum_adds Multixacts = (tt, tt)
vacuum_adds Renews = λ redo h. renews_two (vacuum_of_line ∷ (prune_of_failed ∷ abort_of_702 ∷ inserted_log)) redo h refl refl
vacuum_adds Apart = refl
vacuum_adds Shutdowns = refl
vacuum_adds Transactions = λ legal. (tt, legal)
vacuum_adds NewMultixacts = tt
vacuum_adds Redone = vacuum_redone

pub vacuumed_keeps : WorkedKeeps frozen_log → WorkedKeeps vacuumed_log
vacuumed_keeps keeps =
    each_keeps (prune_of_failed ∷ abort_of_702 ∷ inserted_log) vacuum_of_line
    (each_keeps (abort_of_702 ∷ inserted_log) prune_of_failed
    (each_keeps inserted_log abort_of_702 (each_keeps frozen_log insert_that_fails keeps insert_adds) abort_adds) failed_adds) vacuum_adds
