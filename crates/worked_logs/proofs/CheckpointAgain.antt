-- And so does a checkpoint after it.
use Rattle.std.proofs.Common.{◌≡◌, true, [], ◌∷◌, is_ok, refl}
use Rattle.std.proofs.lemmas.Bool.{false≢true}
use Rattle.pg_types.specs.Numbers.{number_at}
use Rattle.heap_tuple.specs.Tuple.{is_lock_only, is_tuple, is_tuple_head, max_of}
use Rattle.heap_page.specs.Item.{with_item}
use Rattle.heap_page.specs.Put.{put_answer, set_head_answer}
use Rattle.heap_redo.specs.Redone.{grown, redone, redone_record, redone_at, redone_block, view_with, with_seen}
use Rattle.heap_redo.specs.After.{after, after_change, change_head, changed, changed_page, joined, put, put_listed, put_version, tuple_of, update, update_old, update_within}
use Rattle.heap_redo.specs.TupleHeads.{deleted, head_bytes, head_of, locked, marked_mask, marked_mask2, replaced}
use Rattle.transaction_model.specs.LegalTransactions.{Legal}
use Rattle.xact_redo.specs.TransactionsOf.{transaction_of}
use Rattle.row_model.specs.Versions.{changed_at, version_at, with_step, with_steps}
use Rattle.row_model.specs.Locks.{locks, since, up_to_running}
use Rattle.row_model.specs.RowSteps.{births, births_written, block_count, count_with, deleter_of_mark, own_steps, steps_in, update_steps, version_put, version_written, versions, view_after, view_with_record, whole_steps}
use Rattle.row_model.specs.LegalRows.{OnlineLocks, are_apart, renews_first}
use Rattle.row_model.specs.WorkedRows.{worked_log, worked_origin, worked_table}
use Rattle.row_model.proofs.WorkedLog.{no_locks}
use Rattle.worked_logs.specs.Clauses.{Clause, Births, Deleters, Removals, Cut, Blocks, Locks, CheckpointLocks, Multixacts, Renews, Apart, Shutdowns, Transactions, NewMultixacts, Redone}
use Rattle.worked_logs.specs.BrokenLogs.{checkpoint_again, running_again}
use Rattle.worked_logs.proofs.OneMore.{Adds, WorkedKeeps, each_keeps, no_blocks, renews_three}
use Rattle.worked_logs.proofs.NextId.{online_rule}

again_locks : OnlineLocks worked_origin worked_table 0x20001F0 (running_again ∷ worked_log)
unfolding since up_to_running locks
again_locks = record { running = λ e. cc; rewritten = λ x held live. absurd (false≢true held) }

again_redone : is_ok (view_after worked_origin (worked_table ∷ []) (checkpoint_again ∷ (running_again ∷ worked_log))) ≡ true
unfolding view_after view_with_record redone_record redone redone_at redone_block after after_change changed_page changed put_listed put tuple_of head_bytes view_with with_seen grown put_answer set_head_answer change_head update update_within update_old put_version joined is_tuple is_tuple_head with_item number_at head_of marked_mask marked_mask2 replaced deleted locked is_lock_only
again_redone = refl

again_adds : (clause : Clause) → Adds clause (running_again ∷ worked_log) checkpoint_again
unfolding versions block_count steps_in count_with own_steps births births_written whole_steps tuple_of head_bytes with_steps with_step version_at max_of is_lock_only number_at update_steps version_put version_written deleter_of_mark joined marked_mask changed_at renews_first since are_apart up_to_running locks transaction_of Legal
again_adds Births = tt
again_adds Deleters = tt
again_adds Removals = tt
again_adds Cut = tt
again_adds Blocks = no_blocks (running_again ∷ worked_log) (versions worked_origin worked_table (running_again ∷ worked_log)) (versions worked_origin worked_table (checkpoint_again ∷ (running_again ∷ worked_log)))
again_adds Locks = no_locks worked_origin worked_table (running_again ∷ worked_log) checkpoint_again refl refl refl
again_adds CheckpointLocks = again_locks
again_adds Multixacts = tt
again_adds Renews = λ redo h. renews_three 0x20001F0 (checkpoint_again ∷ (running_again ∷ worked_log)) redo h refl refl refl
again_adds Apart = refl
again_adds Shutdowns = refl
again_adds Transactions = λ legal. (online_rule, legal)
again_adds NewMultixacts = tt
again_adds Redone = again_redone

pub again_keeps : WorkedKeeps (running_again ∷ worked_log) → WorkedKeeps (checkpoint_again ∷ (running_again ∷ worked_log))
again_keeps keeps = each_keeps (running_again ∷ worked_log) checkpoint_again keeps again_adds
