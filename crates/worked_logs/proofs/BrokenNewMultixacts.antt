-- A multixact without an id, one that is made again, and one of two updaters each break the clause on new multixacts alone.
use Rattle.std.proofs.Common.{◌≡◌, ◌≢◌, true, [], ◌∷◌, is_ok, arith, refl}
use Rattle.pg_types.specs.Numbers.{number_at}
use Rattle.heap_tuple.specs.Tuple.{is_lock_only, is_tuple, is_tuple_head, max_of}
use Rattle.heap_page.specs.Item.{with_item}
use Rattle.heap_page.specs.Put.{put_answer, set_head_answer}
use Rattle.heap_redo.specs.Redone.{grown, redone, redone_record, redone_at, redone_block, view_with, with_seen}
use Rattle.heap_redo.specs.After.{after, after_change, change_head, changed, changed_page, joined, put, put_listed, put_version, tuple_of, update, update_old, update_within}
use Rattle.heap_redo.specs.TupleHeads.{deleted, head_bytes, head_of, locked, marked_mask, marked_mask2, replaced}
use Rattle.transaction_model.specs.LegalTransactions.{Legal}
use Rattle.xact_redo.specs.TransactionsOf.{transaction_of}
use Rattle.row_model.specs.Versions.{changed_at, version_at, with_step, with_steps}
use Rattle.row_model.specs.Multixacts.{multixacts}
use Rattle.row_model.specs.Locks.{locks, since, up_to_running}
use Rattle.row_model.specs.RowSteps.{births, births_written, block_count, count_with, deleter_of_mark, own_steps, steps_in, update_steps, version_put, version_written, versions, view_after, view_with_record, whole_steps}
use Rattle.row_model.specs.LegalRows.{are_apart, renews_first}
use Rattle.row_model.specs.WorkedRows.{worked_log, worked_origin, worked_table}
use Rattle.row_model.proofs.WorkedLog.{no_locks}
use Rattle.worked_logs.specs.Clauses.{Clause, Births, Deleters, Removals, Cut, Blocks, Locks, CheckpointLocks, Multixacts, Renews, Apart, Shutdowns, Transactions, NewMultixacts, Redone, Keeps}
use Rattle.worked_logs.specs.BrokenLogs.{BreaksOnly, multixact_again, multixact_of_updaters, multixact_once, multixact_zero}
use Rattle.worked_logs.proofs.OneMore.{Adds, WorkedKeeps, breaks_only, each_keeps, no_blocks, renews_two}

zero_redone : is_ok (view_after worked_origin (worked_table ∷ []) (multixact_zero ∷ worked_log)) ≡ true
unfolding view_after view_with_record redone_record redone redone_at redone_block after after_change changed_page changed put_listed put tuple_of head_bytes view_with with_seen grown put_answer set_head_answer change_head update update_within update_old put_version joined is_tuple is_tuple_head with_item number_at head_of marked_mask marked_mask2 replaced deleted locked is_lock_only
zero_redone = refl

zero_adds : (clause : Clause) → clause ≢ NewMultixacts → Adds clause (worked_log) multixact_zero
unfolding versions block_count steps_in count_with own_steps births births_written whole_steps tuple_of head_bytes with_steps with_step version_at max_of is_lock_only number_at update_steps version_put version_written deleter_of_mark joined marked_mask changed_at renews_first since are_apart up_to_running locks transaction_of Legal multixacts
zero_adds Births ne = tt
zero_adds Deleters ne = tt
zero_adds Removals ne = tt
zero_adds Cut ne = tt
zero_adds Blocks ne = no_blocks (worked_log) (versions worked_origin worked_table (worked_log)) (versions worked_origin worked_table (multixact_zero ∷ worked_log))
zero_adds Locks ne = no_locks worked_origin worked_table (worked_log) multixact_zero refl refl refl
zero_adds CheckpointLocks ne = tt
zero_adds Multixacts ne = tt
zero_adds Renews ne = λ redo h. renews_two (multixact_zero ∷ worked_log) redo h refl refl
zero_adds Apart ne = refl
zero_adds Shutdowns ne = refl
zero_adds Transactions ne = λ legal. (tt, legal)
zero_adds NewMultixacts ne = absurd (ne refl)
zero_adds Redone ne = zero_redone

zero_breaks : Keeps NewMultixacts worked_origin worked_table (multixact_zero ∷ worked_log) → ⊥
zero_breaks keeps = keeps.0.id refl

pub zero_only : WorkedKeeps worked_log → BreaksOnly NewMultixacts (multixact_zero ∷ worked_log)
zero_only keeps = breaks_only NewMultixacts worked_log multixact_zero keeps zero_breaks zero_adds

once_redone : is_ok (view_after worked_origin (worked_table ∷ []) (multixact_once ∷ worked_log)) ≡ true
unfolding view_after view_with_record redone_record redone redone_at redone_block after after_change changed_page changed put_listed put tuple_of head_bytes view_with with_seen grown put_answer set_head_answer change_head update update_within update_old put_version joined is_tuple is_tuple_head with_item number_at head_of marked_mask marked_mask2 replaced deleted locked is_lock_only
once_redone = refl

once_adds : (clause : Clause) → Adds clause (worked_log) multixact_once
unfolding versions block_count steps_in count_with own_steps births births_written whole_steps tuple_of head_bytes with_steps with_step version_at max_of is_lock_only number_at update_steps version_put version_written deleter_of_mark joined marked_mask changed_at renews_first since are_apart up_to_running locks transaction_of Legal multixacts
once_adds Births = tt
once_adds Deleters = tt
once_adds Removals = tt
once_adds Cut = tt
once_adds Blocks = no_blocks (worked_log) (versions worked_origin worked_table (worked_log)) (versions worked_origin worked_table (multixact_once ∷ worked_log))
once_adds Locks = no_locks worked_origin worked_table (worked_log) multixact_once refl refl refl
once_adds CheckpointLocks = tt
once_adds Multixacts = tt
once_adds Renews = λ redo h. renews_two (multixact_once ∷ worked_log) redo h refl refl
once_adds Apart = refl
once_adds Shutdowns = refl
once_adds Transactions = λ legal. (tt, legal)
once_adds NewMultixacts = record { id = λ e. absurd (cc); once = refl; updater = omega arith }
once_adds Redone = once_redone

once_keeps : WorkedKeeps worked_log → WorkedKeeps (multixact_once ∷ worked_log)
once_keeps keeps = each_keeps worked_log multixact_once keeps once_adds

again_redone : is_ok (view_after worked_origin (worked_table ∷ []) (multixact_again ∷ multixact_once ∷ worked_log)) ≡ true
unfolding view_after view_with_record redone_record redone redone_at redone_block after after_change changed_page changed put_listed put tuple_of head_bytes view_with with_seen grown put_answer set_head_answer change_head update update_within update_old put_version joined is_tuple is_tuple_head with_item number_at head_of marked_mask marked_mask2 replaced deleted locked is_lock_only
again_redone = refl

again_adds : (clause : Clause) → clause ≢ NewMultixacts → Adds clause (multixact_once ∷ worked_log) multixact_again
unfolding versions block_count steps_in count_with own_steps births births_written whole_steps tuple_of head_bytes with_steps with_step version_at max_of is_lock_only number_at update_steps version_put version_written deleter_of_mark joined marked_mask changed_at renews_first since are_apart up_to_running locks transaction_of Legal multixacts
again_adds Births ne = tt
again_adds Deleters ne = tt
again_adds Removals ne = tt
again_adds Cut ne = tt
again_adds Blocks ne = no_blocks (multixact_once ∷ worked_log) (versions worked_origin worked_table (multixact_once ∷ worked_log)) (versions worked_origin worked_table (multixact_again ∷ multixact_once ∷ worked_log))
again_adds Locks ne = no_locks worked_origin worked_table (multixact_once ∷ worked_log) multixact_again refl refl refl
again_adds CheckpointLocks ne = tt
again_adds Multixacts ne = tt
again_adds Renews ne = λ redo h. renews_two (multixact_again ∷ multixact_once ∷ worked_log) redo h refl refl
again_adds Apart ne = refl
again_adds Shutdowns ne = refl
again_adds Transactions ne = λ legal. (tt, legal)
again_adds NewMultixacts ne = absurd (ne refl)
again_adds Redone ne = again_redone

again_breaks : Keeps NewMultixacts worked_origin worked_table (multixact_again ∷ multixact_once ∷ worked_log) → ⊥
unfolding multixacts
again_breaks keeps = let new = keeps.0.once in cc

pub again_only : WorkedKeeps worked_log → BreaksOnly NewMultixacts (multixact_again ∷ multixact_once ∷ worked_log)
again_only keeps =
    breaks_only NewMultixacts (multixact_once ∷ worked_log) multixact_again (once_keeps keeps) again_breaks again_adds

updaters_redone : is_ok (view_after worked_origin (worked_table ∷ []) (multixact_of_updaters ∷ worked_log)) ≡ true
unfolding view_after view_with_record redone_record redone redone_at redone_block after after_change changed_page changed put_listed put tuple_of head_bytes view_with with_seen grown put_answer set_head_answer change_head update update_within update_old put_version joined is_tuple is_tuple_head with_item number_at head_of marked_mask marked_mask2 replaced deleted locked is_lock_only
updaters_redone = refl

updaters_adds : (clause : Clause) → clause ≢ NewMultixacts → Adds clause (worked_log) multixact_of_updaters
unfolding versions block_count steps_in count_with own_steps births births_written whole_steps tuple_of head_bytes with_steps with_step version_at max_of is_lock_only number_at update_steps version_put version_written deleter_of_mark joined marked_mask changed_at renews_first since are_apart up_to_running locks transaction_of Legal multixacts
updaters_adds Births ne = tt
updaters_adds Deleters ne = tt
updaters_adds Removals ne = tt
updaters_adds Cut ne = tt
updaters_adds Blocks ne = no_blocks (worked_log) (versions worked_origin worked_table (worked_log)) (versions worked_origin worked_table (multixact_of_updaters ∷ worked_log))
updaters_adds Locks ne = no_locks worked_origin worked_table (worked_log) multixact_of_updaters refl refl refl
updaters_adds CheckpointLocks ne = tt
updaters_adds Multixacts ne = tt
updaters_adds Renews ne = λ redo h. renews_two (multixact_of_updaters ∷ worked_log) redo h refl refl
updaters_adds Apart ne = refl
updaters_adds Shutdowns ne = refl
updaters_adds Transactions ne = λ legal. (tt, legal)
updaters_adds NewMultixacts ne = absurd (ne refl)
updaters_adds Redone ne = updaters_redone

updaters_breaks : Keeps NewMultixacts worked_origin worked_table (multixact_of_updaters ∷ worked_log) → ⊥
updaters_breaks keeps = let few = keeps.0.updater in absurd (omega (arith, few))

pub updaters_only : WorkedKeeps worked_log → BreaksOnly NewMultixacts (multixact_of_updaters ∷ worked_log)
updaters_only keeps = breaks_only NewMultixacts worked_log multixact_of_updaters keeps updaters_breaks updaters_adds
