-- A deleter that is a multixact that nobody made breaks the clause on multixacts alone.
use Rattle.std.proofs.Common.{◌≡◌, ◌≢◌, true, [], ◌∷◌, is_ok, refl}
use Rattle.pg_types.specs.Numbers.{number_at}
use Rattle.heap_tuple.specs.Tuple.{is_lock_only, is_tuple, is_tuple_head, max_of}
use Rattle.heap_page.specs.Item.{with_item}
use Rattle.heap_page.specs.Put.{put_answer, set_head_answer}
use Rattle.heap_redo.specs.Redone.{grown, redone, redone_record, redone_at, redone_block, view_with, with_seen}
use Rattle.heap_redo.specs.After.{after, after_change, change_head, changed, changed_page, joined, put, put_listed, put_version, tuple_of, update, update_old, update_within}
use Rattle.heap_redo.specs.TupleHeads.{deleted, head_bytes, head_of, locked, marked_mask, marked_mask2, replaced}
use Rattle.transaction_model.specs.LegalTransactions.{Legal}
use Rattle.xact_redo.specs.TransactionsOf.{transaction_of}
use Rattle.row_model.specs.Versions.{changed_at, version_at, with_step, with_steps}
use Rattle.row_model.specs.Multixacts.{multixacts}
use Rattle.row_model.specs.Locks.{locks, since, up_to_running}
use Rattle.row_model.specs.RowSteps.{births, births_written, block_count, count_with, deleter_of_mark, own_steps, steps_in, update_steps, version_put, version_written, versions, view_after, view_with_record, whole_steps}
use Rattle.row_model.specs.LegalSteps.{Stays}
use Rattle.row_model.specs.LegalRows.{are_apart, renews_first}
use Rattle.row_model.specs.WorkedRows.{worked_log, worked_origin, worked_table}
use Rattle.row_model.proofs.WorkedLog.{no_locks}
use Rattle.worked_logs.specs.Clauses.{Clause, Births, Deleters, Removals, Cut, Blocks, Locks, CheckpointLocks, Multixacts, Renews, Apart, Shutdowns, Transactions, NewMultixacts, Redone, Keeps}
use Rattle.worked_logs.specs.BrokenLogs.{BreaksOnly, lock_by_unmade}
use Rattle.worked_logs.proofs.OneMore.{Adds, WorkedKeeps, bare_rule, breaks_only, no_blocks, renews_two}

multixacts_redone : is_ok (view_after worked_origin (worked_table ∷ []) (lock_by_unmade ∷ worked_log)) ≡ true
unfolding view_after view_with_record redone_record redone redone_at redone_block after after_change changed_page changed put_listed put tuple_of head_bytes view_with with_seen grown put_answer set_head_answer change_head update update_within update_old put_version joined is_tuple is_tuple_head with_item number_at head_of marked_mask marked_mask2 replaced deleted locked is_lock_only
multixacts_redone = refl

multixacts_adds : (clause : Clause) → clause ≢ Multixacts → Adds clause worked_log lock_by_unmade
unfolding versions block_count steps_in count_with own_steps births births_written whole_steps tuple_of head_bytes with_steps with_step version_at max_of is_lock_only number_at update_steps version_put version_written deleter_of_mark joined marked_mask changed_at renews_first since are_apart up_to_running locks transaction_of Legal multixacts
multixacts_adds Births ne = (tt, tt)
multixacts_adds Deleters ne = (Stays refl, tt)
multixacts_adds Removals ne = (tt, tt)
multixacts_adds Cut ne = tt
multixacts_adds Blocks ne = bare_rule worked_log (versions worked_origin worked_table worked_log) (versions worked_origin worked_table (lock_by_unmade ∷ worked_log)) 0 [] (no_blocks worked_log (versions worked_origin worked_table worked_log) (versions worked_origin worked_table (lock_by_unmade ∷ worked_log)))
multixacts_adds Locks ne = no_locks worked_origin worked_table worked_log lock_by_unmade refl refl refl
multixacts_adds CheckpointLocks ne = tt
multixacts_adds Multixacts ne = absurd (ne refl)
multixacts_adds Renews ne = λ redo h. renews_two (lock_by_unmade ∷ worked_log) redo h refl refl
multixacts_adds Apart ne = refl
multixacts_adds Shutdowns ne = refl
multixacts_adds Transactions ne = λ legal. (tt, legal)
multixacts_adds NewMultixacts ne = tt
multixacts_adds Redone ne = multixacts_redone

multixacts_breaks : Keeps Multixacts worked_origin worked_table (lock_by_unmade ∷ worked_log) → ⊥
unfolding versions block_count steps_in count_with own_steps births births_written whole_steps tuple_of head_bytes with_steps with_step version_at max_of is_lock_only number_at update_steps version_put version_written deleter_of_mark joined marked_mask changed_at renews_first since are_apart up_to_running locks transaction_of Legal multixacts
multixacts_breaks keeps = let (updater, made) = keeps.0.0 in cc

pub multixacts_only : WorkedKeeps worked_log → BreaksOnly Multixacts (lock_by_unmade ∷ worked_log)
multixacts_only keeps = breaks_only Multixacts worked_log lock_by_unmade keeps multixacts_breaks multixacts_adds
