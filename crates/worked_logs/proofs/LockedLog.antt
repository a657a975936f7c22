-- A lock that a transaction takes keeps each clause, and it acts under that lock.
use Rattle.std.proofs.Common.{◌≡◌, true, [], ◌∷◌, is_ok, arith, refl}
use Rattle.pg_types.specs.Numbers.{number_at}
use Rattle.heap_tuple.specs.Tuple.{is_lock_only, is_tuple, is_tuple_head, max_of}
use Rattle.heap_page.specs.Item.{with_item}
use Rattle.heap_page.specs.Put.{put_answer, set_head_answer}
use Rattle.heap_redo.specs.Redone.{grown, redone, redone_record, redone_at, redone_block, view_with, with_seen}
use Rattle.heap_redo.specs.After.{after, after_change, change_head, changed, changed_page, joined, put, put_listed, put_version, tuple_of, update, update_old, update_within}
use Rattle.heap_redo.specs.TupleHeads.{deleted, head_bytes, head_of, locked, marked_mask, marked_mask2, replaced}
use Rattle.transaction_model.specs.Transactions.{Live, ended}
use Rattle.transaction_model.specs.LegalTransactions.{Legal}
use Rattle.xact_redo.specs.TransactionsOf.{transaction_of, transactions_of}
use Rattle.row_model.specs.Versions.{changed_at, version_at, with_step, with_steps}
use Rattle.row_model.specs.Locks.{UnderLock, locks, since, since_shutdown, up_to_running}
use Rattle.row_model.specs.RowSteps.{births, births_written, block_count, count_with, deleter_of_mark, own_steps, steps_in, update_steps, version_put, version_written, versions, view_after, view_with_record, whole_steps}
use Rattle.row_model.specs.LegalRows.{are_apart, renews_first}
use Rattle.row_model.specs.WorkedRows.{worked_ids, worked_log, worked_origin, worked_table}
use Rattle.row_model.proofs.WorkedLog.{no_locks}
use Rattle.worked_logs.specs.Clauses.{Clause, Births, Deleters, Removals, Cut, Blocks, Locks, CheckpointLocks, Multixacts, Renews, Apart, Shutdowns, Transactions, NewMultixacts, Redone}
use Rattle.worked_logs.specs.BrokenLogs.{lock_by_702, locked_log}
use Rattle.worked_logs.proofs.OneMore.{Adds, WorkedKeeps, each_keeps, no_blocks, renews_two}

locked_redone : is_ok (view_after worked_origin (worked_table ∷ []) (lock_by_702 ∷ worked_log)) ≡ true
unfolding view_after view_with_record redone_record redone redone_at redone_block after after_change changed_page changed put_listed put tuple_of head_bytes view_with with_seen grown put_answer set_head_answer change_head update update_within update_old put_version joined is_tuple is_tuple_head with_item number_at head_of marked_mask marked_mask2 replaced deleted locked is_lock_only
locked_redone = refl

locked_adds : (clause : Clause) → Adds clause worked_log lock_by_702
unfolding versions block_count steps_in count_with own_steps births births_written whole_steps tuple_of head_bytes with_steps with_step version_at max_of is_lock_only number_at update_steps version_put version_written deleter_of_mark joined marked_mask changed_at renews_first since are_apart up_to_running locks transaction_of Legal
locked_adds Births = tt
locked_adds Deleters = tt
locked_adds Removals = tt
locked_adds Cut = tt
locked_adds Blocks = no_blocks worked_log (versions worked_origin worked_table worked_log) (versions worked_origin worked_table (lock_by_702 ∷ worked_log))
locked_adds Locks = no_locks worked_origin worked_table worked_log lock_by_702 refl refl refl
locked_adds CheckpointLocks = tt
locked_adds Multixacts = tt
locked_adds Renews = λ redo h. renews_two (lock_by_702 ∷ worked_log) redo h refl refl
locked_adds Apart = refl
locked_adds Shutdowns = refl
locked_adds Transactions = λ legal. (tt, legal)
locked_adds NewMultixacts = tt
locked_adds Redone = locked_redone

pub locked_keeps : WorkedKeeps worked_log → WorkedKeeps (lock_by_702 ∷ worked_log)
locked_keeps keeps = each_keeps worked_log lock_by_702 keeps locked_adds

pub live_702 : Live worked_ids.at 702 (transactions_of locked_log)
unfolding ended transaction_of
live_702 = record { normal = omega arith; not_ended = refl }

pub under_702 : UnderLock worked_origin worked_table locked_log 702
unfolding since_shutdown locks
under_702 = record { holder = 702; held = refl; live = live_702; own = refl }
