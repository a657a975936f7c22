-- An online checkpoint before which a lock is not written again breaks the clause on checkpoints alone.
use Rattle.std.proofs.Common.{◌≡◌, ◌≢◌, true, [], ◌∷◌, is_ok, arith, refl, inl, inr}
use Rattle.std.proofs.lemmas.Bool.{false≢true}
use Rattle.pg_types.specs.Numbers.{number_at}
use Rattle.heap_tuple.specs.Tuple.{is_lock_only, is_tuple, is_tuple_head, max_of}
use Rattle.heap_page.specs.Item.{with_item}
use Rattle.heap_page.specs.Put.{put_answer, set_head_answer}
use Rattle.heap_redo.specs.Redone.{grown, redone, redone_record, redone_at, redone_block, view_with, with_seen}
use Rattle.heap_redo.specs.After.{after, after_change, change_head, changed, changed_page, joined, put, put_listed, put_version, tuple_of, update, update_old, update_within}
use Rattle.heap_redo.specs.TupleHeads.{deleted, head_bytes, head_of, locked, marked_mask, marked_mask2, replaced}
use Rattle.transaction_model.specs.Transactions.{Live, ended}
use Rattle.transaction_model.specs.LegalTransactions.{Legal, OnlineRule, before, last_redo, starts_at}
use Rattle.xact_redo.specs.TransactionsOf.{transaction_of, transactions_of}
use Rattle.row_model.specs.Versions.{changed_at, version_at, with_step, with_steps}
use Rattle.row_model.specs.Locks.{locks, since, up_to_running}
use Rattle.row_model.specs.RowSteps.{births, births_written, block_count, count_with, deleter_of_mark, own_steps, steps_in, update_steps, version_put, version_written, versions, view_after, view_with_record, whole_steps}
use Rattle.row_model.specs.LegalRows.{are_apart, renews_first}
use Rattle.row_model.specs.WorkedRows.{worked_ids, worked_origin, worked_table}
use Rattle.row_model.proofs.WorkedLog.{no_locks}
use Rattle.worked_logs.specs.Clauses.{Clause, Births, Deleters, Removals, Cut, Blocks, Locks, CheckpointLocks, Multixacts, Renews, Apart, Shutdowns, Transactions, NewMultixacts, Redone, Keeps}
use Rattle.worked_logs.specs.BrokenLogs.{BreaksOnly, checkpoint_without_locks, running_log}
use Rattle.worked_logs.proofs.OneMore.{Adds, WorkedKeeps, breaks_only, no_blocks, renews_three}
use Rattle.worked_logs.proofs.RunningLocked.{locked_next}

rewritten_online : OnlineRule worked_ids 0x2000218 703 (transactions_of running_log) (transactions_of (checkpoint_without_locks ∷ running_log))
unfolding before last_redo starts_at transaction_of
rewritten_online = record { is_start = refl; not_before = omega arith; is_next = locked_next }

holder_live : Live worked_ids.at 702 (transactions_of running_log)
unfolding ended transaction_of
holder_live = record { normal = omega arith; not_ended = refl }

rewritten_redone : is_ok (view_after worked_origin (worked_table ∷ []) (checkpoint_without_locks ∷ running_log)) ≡ true
unfolding view_after view_with_record redone_record redone redone_at redone_block after after_change changed_page changed put_listed put tuple_of head_bytes view_with with_seen grown put_answer set_head_answer change_head update update_within update_old put_version joined is_tuple is_tuple_head with_item number_at head_of marked_mask marked_mask2 replaced deleted locked is_lock_only
rewritten_redone = refl

rewritten_adds : (clause : Clause) → clause ≢ CheckpointLocks → Adds clause running_log checkpoint_without_locks
unfolding versions block_count steps_in count_with own_steps births births_written whole_steps tuple_of head_bytes with_steps with_step version_at max_of is_lock_only number_at update_steps version_put version_written deleter_of_mark joined marked_mask changed_at renews_first since are_apart up_to_running locks transaction_of Legal
rewritten_adds Births ne = tt
rewritten_adds Deleters ne = tt
rewritten_adds Removals ne = tt
rewritten_adds Cut ne = tt
rewritten_adds Blocks ne = no_blocks running_log (versions worked_origin worked_table running_log) (versions worked_origin worked_table (checkpoint_without_locks ∷ running_log))
rewritten_adds Locks ne = no_locks worked_origin worked_table running_log checkpoint_without_locks refl refl refl
rewritten_adds CheckpointLocks ne = absurd (ne refl)
rewritten_adds Multixacts ne = tt
rewritten_adds Renews ne = λ redo h. renews_three 0x2000218 (checkpoint_without_locks ∷ running_log) redo h refl refl refl
rewritten_adds Apart ne = refl
rewritten_adds Shutdowns ne = refl
rewritten_adds Transactions ne = λ legal. (rewritten_online, legal)
rewritten_adds NewMultixacts ne = tt
rewritten_adds Redone ne = rewritten_redone

-- 702 holds its lock, and no entry stands from the redo position on
rewritten_breaks : Keeps CheckpointLocks worked_origin worked_table (checkpoint_without_locks ∷ running_log) → ⊥
unfolding since up_to_running locks
rewritten_breaks keeps =
    elim (keeps.0.rewritten 702 refl holder_live) [
      | inl own ↦ false≢true own
      | inr top ↦ false≢true top
    ]

pub rewritten_only : WorkedKeeps running_log → BreaksOnly CheckpointLocks (checkpoint_without_locks ∷ running_log)
rewritten_only keeps = breaks_only CheckpointLocks running_log checkpoint_without_locks keeps rewritten_breaks rewritten_adds
