-- A delete at a free line breaks the clause on redo alone.
use Rattle.std.proofs.Common.{◌≢◌, [], ◌∷◌, is_ok, refl, ap}
use Rattle.std.proofs.lemmas.Bool.{false≢true}
use Rattle.pg_types.specs.Numbers.{number_at}
use Rattle.heap_tuple.specs.Tuple.{is_lock_only, is_tuple, is_tuple_head, max_of}
use Rattle.heap_page.specs.Item.{with_item}
use Rattle.heap_page.specs.Put.{put_answer, set_head_answer}
use Rattle.heap_redo.specs.Redone.{grown, redone, redone_record, redone_at, redone_block, view_with, with_seen}
use Rattle.heap_redo.specs.After.{after, after_change, change_head, changed, changed_page, joined, put, put_listed, put_version, tuple_of, update, update_old, update_within}
use Rattle.heap_redo.specs.TupleHeads.{deleted, head_bytes, head_of, locked, marked_mask, marked_mask2, replaced}
use Rattle.transaction_model.specs.LegalTransactions.{Legal}
use Rattle.xact_redo.specs.TransactionsOf.{transaction_of}
use Rattle.row_model.specs.Versions.{changed_at, version_at, with_step, with_steps}
use Rattle.row_model.specs.Locks.{locks, since, up_to_running}
use Rattle.row_model.specs.RowSteps.{births, births_written, block_count, count_with, deleter_of_mark, own_steps, steps_in, update_steps, version_put, version_written, versions, view_after, view_with_record, whole_steps}
use Rattle.row_model.specs.LegalRows.{are_apart, renews_first}
use Rattle.row_model.specs.WorkedRows.{worked_log, worked_origin, worked_table}
use Rattle.row_model.proofs.WorkedLog.{no_locks}
use Rattle.worked_logs.specs.Clauses.{Clause, Births, Deleters, Removals, Cut, Blocks, Locks, CheckpointLocks, Multixacts, Renews, Apart, Shutdowns, Transactions, NewMultixacts, Redone, Keeps}
use Rattle.worked_logs.specs.BrokenLogs.{BreaksOnly, delete_of_none}
use Rattle.worked_logs.proofs.OneMore.{Adds, WorkedKeeps, bare_rule, breaks_only, no_blocks, renews_two}

redone_adds : (clause : Clause) → clause ≢ Redone → Adds clause worked_log delete_of_none
unfolding versions block_count steps_in count_with own_steps births births_written whole_steps tuple_of head_bytes with_steps with_step version_at max_of is_lock_only number_at update_steps version_put version_written deleter_of_mark joined marked_mask changed_at renews_first since are_apart up_to_running locks transaction_of Legal
redone_adds Births ne = (tt, tt)
redone_adds Deleters ne = (tt, tt)
redone_adds Removals ne = (tt, tt)
redone_adds Cut ne = tt
redone_adds Blocks ne = bare_rule worked_log (versions worked_origin worked_table worked_log) (versions worked_origin worked_table (delete_of_none ∷ worked_log)) 0 [] (no_blocks worked_log (versions worked_origin worked_table worked_log) (versions worked_origin worked_table (delete_of_none ∷ worked_log)))
redone_adds Locks ne = no_locks worked_origin worked_table worked_log delete_of_none refl refl refl
redone_adds CheckpointLocks ne = tt
redone_adds Multixacts ne = (tt, tt)
redone_adds Renews ne = λ redo h. renews_two (delete_of_none ∷ worked_log) redo h refl refl
redone_adds Apart ne = refl
redone_adds Shutdowns ne = refl
redone_adds Transactions ne = λ legal. (tt, legal)
redone_adds NewMultixacts ne = tt
redone_adds Redone ne = absurd (ne refl)

redone_breaks : Keeps Redone worked_origin worked_table (delete_of_none ∷ worked_log) → ⊥
unfolding view_after view_with_record redone_record redone redone_at redone_block after after_change changed_page changed put_listed put tuple_of head_bytes view_with with_seen grown put_answer set_head_answer change_head update update_within update_old put_version joined is_tuple is_tuple_head with_item number_at head_of marked_mask marked_mask2 replaced deleted locked is_lock_only
redone_breaks keeps = let (view, is) = keeps in false≢true (ap is_ok is)

pub redone_only : WorkedKeeps worked_log → BreaksOnly Redone (delete_of_none ∷ worked_log)
redone_only keeps = breaks_only Redone worked_log delete_of_none keeps redone_breaks redone_adds
