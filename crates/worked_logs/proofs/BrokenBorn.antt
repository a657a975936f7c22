-- A tuple that is born frozen without a lock breaks the clause on births alone.
use Rattle.std.proofs.Common.{◌≡◌, ◌≢◌, true, false, [], ◌∷◌, None, is_ok, refl}
use Rattle.std.proofs.lemmas.Bool.{false≢true}
use Rattle.pg_types.specs.Numbers.{number_at}
use Rattle.heap_tuple.specs.Tuple.{is_lock_only, is_tuple, is_tuple_head, max_of}
use Rattle.heap_page.specs.Item.{with_item}
use Rattle.heap_page.specs.Put.{put_answer, set_head_answer}
use Rattle.heap_redo.specs.Redone.{grown, redone, redone_record, redone_at, redone_block, view_with, with_seen}
use Rattle.heap_redo.specs.After.{after, after_change, change_head, changed, changed_page, joined, put, put_listed, put_version, tuple_of, update, update_old, update_within}
use Rattle.heap_redo.specs.TupleHeads.{deleted, head_bytes, head_of, locked, marked_mask, marked_mask2, replaced}
use Rattle.transaction_model.specs.LegalTransactions.{Legal}
use Rattle.xact_redo.specs.TransactionsOf.{transaction_of}
use Rattle.row_model.specs.Versions.{changed_at, version_at, with_step, with_steps}
use Rattle.row_model.specs.Locks.{locks, since, up_to_running}
use Rattle.row_model.specs.RowSteps.{births, births_written, block_count, count_with, deleter_of_mark, own_steps, steps_in, update_steps, version_put, version_written, versions, view_after, view_with_record, whole_steps}
use Rattle.row_model.specs.LegalSteps.{BirthMarks, BornFrozen, Unmarked}
use Rattle.row_model.specs.LegalRows.{are_apart, renews_first}
use Rattle.row_model.specs.WorkedRows.{worked_log, worked_origin, worked_table}
use Rattle.row_model.proofs.WorkedLog.{no_locks}
use Rattle.worked_logs.specs.Clauses.{Clause, Births, Deleters, Removals, Cut, Blocks, Locks, CheckpointLocks, Multixacts, Renews, Apart, Shutdowns, Transactions, NewMultixacts, Redone, Keeps}
use Rattle.worked_logs.specs.BrokenLogs.{BreaksOnly, frozen_tuple, insert_frozen}
use Rattle.worked_logs.proofs.OneMore.{Adds, WorkedKeeps, breaks_only, one_block, renews_two}
use Rattle.worked_logs.proofs.BrokenLocks.{no_lock}

no_marks : BirthMarks worked_origin worked_table worked_log (tuple_of 702 0 0 3 frozen_tuple frozen_tuple.rest) → ⊥
unfolding tuple_of head_bytes number_at
no_marks (Unmarked none) = cc
no_marks (BornFrozen frozen under) = no_lock _ under

born_marks : Keeps Births worked_origin worked_table (insert_frozen ∷ worked_log) → BirthMarks worked_origin worked_table worked_log (tuple_of 702 0 0 3 frozen_tuple frozen_tuple.rest)
unfolding versions block_count steps_in count_with own_steps births births_written whole_steps tuple_of head_bytes with_steps with_step version_at max_of is_lock_only number_at update_steps version_put version_written deleter_of_mark joined marked_mask changed_at
born_marks keeps = keeps.0.0.inserter

born_redone : is_ok (view_after worked_origin (worked_table ∷ []) (insert_frozen ∷ worked_log)) ≡ true
unfolding view_after view_with_record redone_record redone redone_at redone_block after after_change changed_page changed put_listed put tuple_of head_bytes view_with with_seen grown put_answer set_head_answer change_head update update_within update_old put_version joined is_tuple is_tuple_head with_item number_at head_of marked_mask marked_mask2 replaced deleted locked is_lock_only
born_redone = refl

born_adds : (clause : Clause) → clause ≢ Births → Adds clause worked_log insert_frozen
unfolding versions block_count steps_in count_with own_steps births births_written whole_steps tuple_of head_bytes with_steps with_step version_at max_of is_lock_only number_at update_steps version_put version_written deleter_of_mark joined marked_mask changed_at renews_first since are_apart up_to_running locks transaction_of Legal
born_adds Births ne = absurd (ne refl)
born_adds Deleters ne = (tt, tt)
born_adds Removals ne = (tt, tt)
born_adds Cut ne = tt
born_adds Blocks ne = one_block worked_log (versions worked_origin worked_table worked_log) (versions worked_origin worked_table (insert_frozen ∷ worked_log)) (record { id = 0; locator = worked_table; block = 0; will_init = false; image = None; tuples = frozen_tuple ∷ [] }) (λ e. (tt, λ anew. absurd (false≢true anew)))
born_adds Locks ne = no_locks worked_origin worked_table worked_log insert_frozen refl refl refl
born_adds CheckpointLocks ne = tt
born_adds Multixacts ne = (tt, tt)
born_adds Renews ne = λ redo h. renews_two (insert_frozen ∷ worked_log) redo h refl refl
born_adds Apart ne = refl
born_adds Shutdowns ne = refl
born_adds Transactions ne = λ legal. (tt, legal)
born_adds NewMultixacts ne = tt
born_adds Redone ne = born_redone

born_breaks : Keeps Births worked_origin worked_table (insert_frozen ∷ worked_log) → ⊥
born_breaks keeps = no_marks (born_marks keeps)

pub born_only : WorkedKeeps worked_log → BreaksOnly Births (insert_frozen ∷ worked_log)
born_only keeps = breaks_only Births worked_log insert_frozen keeps born_breaks born_adds
