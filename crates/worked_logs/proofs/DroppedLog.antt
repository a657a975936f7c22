-- A commit that drops the table under a lock keeps each clause.
use Rattle.std.proofs.Common.{◌≡◌, true, [], ◌∷◌, is_ok, refl}
use Rattle.std.proofs.lemmas.Bool.{false≢true}
use Rattle.pg_types.specs.Numbers.{number_at}
use Rattle.heap_tuple.specs.Tuple.{is_lock_only, is_tuple, is_tuple_head, max_of}
use Rattle.heap_page.specs.Item.{with_item}
use Rattle.heap_page.specs.Put.{put_answer, set_head_answer}
use Rattle.heap_redo.specs.Redone.{grown, redone, redone_record, redone_at, redone_block, view_with, with_seen}
use Rattle.heap_redo.specs.After.{after, after_change, change_head, changed, changed_page, joined, put, put_listed, put_version, tuple_of, update, update_old, update_within}
use Rattle.heap_redo.specs.TupleHeads.{deleted, head_bytes, head_of, locked, marked_mask, marked_mask2, replaced}
use Rattle.transaction_model.specs.LegalTransactions.{Legal}
use Rattle.xact_redo.specs.TransactionsOf.{transaction_of, transactions_of}
use Rattle.row_model.specs.Versions.{changed_at, version_at, with_step, with_steps}
use Rattle.row_model.specs.Locks.{locks, since, up_to_running}
use Rattle.row_model.specs.RowSteps.{births, births_written, block_count, count_with, deleter_of_mark, own_steps, steps_in, update_steps, version_put, version_written, versions, view_after, view_with_record, whole_steps}
use Rattle.row_model.specs.LegalRows.{LockRule, are_apart, renews_first}
use Rattle.row_model.specs.WorkedRows.{worked_origin, worked_table}
use Rattle.row_model.proofs.WorkedIds.{commit_rule}
use Rattle.worked_logs.specs.Clauses.{Clause, Births, Deleters, Removals, Cut, Blocks, Locks, CheckpointLocks, Multixacts, Renews, Apart, Shutdowns, Transactions, NewMultixacts, Redone}
use Rattle.worked_logs.specs.BrokenLogs.{drop_by_702, locked_log}
use Rattle.worked_logs.proofs.OneMore.{Adds, WorkedKeeps, each_keeps, no_blocks, renews_two}
use Rattle.worked_logs.proofs.LockedLog.{live_702, under_702}

dropped_locks : LockRule worked_origin worked_table locked_log drop_by_702
dropped_locks = record { cut = λ blocks e. absurd (cc); drop = λ e. under_702; gone = λ e. absurd (false≢true e) }

dropped_redone : is_ok (view_after worked_origin (worked_table ∷ []) (drop_by_702 ∷ locked_log)) ≡ true
unfolding view_after view_with_record redone_record redone redone_at redone_block after after_change changed_page changed put_listed put tuple_of head_bytes view_with with_seen grown put_answer set_head_answer change_head update update_within update_old put_version joined is_tuple is_tuple_head with_item number_at head_of marked_mask marked_mask2 replaced deleted locked is_lock_only
dropped_redone = refl

dropped_adds : (clause : Clause) → Adds clause locked_log drop_by_702
unfolding versions block_count steps_in count_with own_steps births births_written whole_steps tuple_of head_bytes with_steps with_step version_at max_of is_lock_only number_at update_steps version_put version_written deleter_of_mark joined marked_mask changed_at renews_first since are_apart up_to_running locks transaction_of Legal
dropped_adds Births = tt
dropped_adds Deleters = tt
dropped_adds Removals = tt
dropped_adds Cut = tt
dropped_adds Blocks = no_blocks locked_log (versions worked_origin worked_table locked_log) (versions worked_origin worked_table (drop_by_702 ∷ locked_log))
dropped_adds Locks = dropped_locks
dropped_adds CheckpointLocks = tt
dropped_adds Multixacts = tt
dropped_adds Renews = λ redo h. renews_two (drop_by_702 ∷ locked_log) redo h refl refl
dropped_adds Apart = refl
dropped_adds Shutdowns = refl
dropped_adds Transactions = λ legal. (commit_rule 702 (transactions_of locked_log) live_702, legal)
dropped_adds NewMultixacts = tt
dropped_adds Redone = dropped_redone

pub dropped_keeps : WorkedKeeps locked_log → WorkedKeeps (drop_by_702 ∷ locked_log)
dropped_keeps keeps = each_keeps locked_log drop_by_702 keeps dropped_adds
