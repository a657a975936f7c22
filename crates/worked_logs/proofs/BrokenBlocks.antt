-- A block that is made anew over its versions breaks the clause on blocks alone.
use Rattle.std.proofs.Common.{◌≡◌, ◌≢◌, true, [], ◌∷◌, is_ok, None, refl}
use Rattle.std.proofs.lemmas.List.Elements.{All-head}
use Rattle.pg_types.specs.Numbers.{number_at}
use Rattle.heap_tuple.specs.Tuple.{is_lock_only, is_tuple, is_tuple_head, max_of}
use Rattle.heap_page.specs.Item.{with_item}
use Rattle.heap_page.specs.Put.{put_answer, set_head_answer}
use Rattle.heap_redo.specs.Redone.{grown, redone, redone_record, redone_at, redone_block, view_with, with_seen}
use Rattle.heap_redo.specs.After.{after, after_change, change_head, changed, changed_page, joined, put, put_listed, put_version, tuple_of, update, update_old, update_within}
use Rattle.heap_redo.specs.TupleHeads.{deleted, head_bytes, head_of, locked, marked_mask, marked_mask2, replaced}
use Rattle.transaction_model.specs.LegalTransactions.{Legal}
use Rattle.xact_redo.specs.TransactionsOf.{transaction_of}
use Rattle.row_model.specs.Versions.{changed_at, version_at, with_step, with_steps}
use Rattle.row_model.specs.Locks.{locks, since, up_to_running}
use Rattle.row_model.specs.RowSteps.{births, births_written, block_count, count_with, deleter_of_mark, own_steps, steps_in, update_steps, version_put, version_written, versions, view_after, view_with_record, whole_steps}
use Rattle.row_model.specs.LegalRows.{AnewRule, are_apart, renews_first}
use Rattle.row_model.specs.WorkedRows.{worked_log, worked_origin, worked_table}
use Rattle.row_model.proofs.WorkedLog.{no_locks}
use Rattle.worked_logs.specs.Clauses.{Clause, Births, Deleters, Removals, Cut, Blocks, Locks, CheckpointLocks, Multixacts, Renews, Apart, Shutdowns, Transactions, NewMultixacts, Redone, Keeps}
use Rattle.worked_logs.specs.BrokenLogs.{BreaksOnly, anew_again, bare_block}
use Rattle.worked_logs.proofs.OneMore.{Adds, IsBlockRule, WorkedKeeps, breaks_only, renews_two}

no_place : AnewRule (versions worked_origin worked_table worked_log) (bare_block 0 true) → ⊥
unfolding versions block_count steps_in count_with own_steps births births_written whole_steps tuple_of head_bytes with_steps with_step version_at max_of is_lock_only number_at update_steps version_put version_written deleter_of_mark joined marked_mask changed_at
no_place anew = let none : version_at 0 1 (versions worked_origin worked_table worked_log) ≡ None = anew refl 1 in cc

blocks_redone : is_ok (view_after worked_origin (worked_table ∷ []) (anew_again ∷ worked_log)) ≡ true
unfolding view_after view_with_record redone_record redone redone_at redone_block after after_change changed_page changed put_listed put tuple_of head_bytes view_with with_seen grown put_answer set_head_answer change_head update update_within update_old put_version joined is_tuple is_tuple_head with_item number_at head_of marked_mask marked_mask2 replaced deleted locked is_lock_only
blocks_redone = refl

blocks_adds : (clause : Clause) → clause ≢ Blocks → Adds clause worked_log anew_again
unfolding versions block_count steps_in count_with own_steps births births_written whole_steps tuple_of head_bytes with_steps with_step version_at max_of is_lock_only number_at update_steps version_put version_written deleter_of_mark joined marked_mask changed_at renews_first since are_apart up_to_running locks transaction_of Legal
blocks_adds Births ne = tt
blocks_adds Deleters ne = tt
blocks_adds Removals ne = tt
blocks_adds Cut ne = tt
blocks_adds Blocks ne = absurd (ne refl)
blocks_adds Locks ne = no_locks worked_origin worked_table worked_log anew_again refl refl refl
blocks_adds CheckpointLocks ne = tt
blocks_adds Multixacts ne = tt
blocks_adds Renews ne = λ redo h. renews_two (anew_again ∷ worked_log) redo h refl refl
blocks_adds Apart ne = refl
blocks_adds Shutdowns ne = refl
blocks_adds Transactions ne = λ legal. (tt, legal)
blocks_adds NewMultixacts ne = tt
blocks_adds Redone ne = blocks_redone

blocks_breaks : Keeps Blocks worked_origin worked_table (anew_again ∷ worked_log) → ⊥
unfolding Legal
blocks_breaks keeps = no_place (All-head (IsBlockRule worked_log (versions worked_origin worked_table worked_log) (versions worked_origin worked_table (anew_again ∷ worked_log))) (bare_block 0 true) [] keeps.0 refl).1

pub blocks_only : WorkedKeeps worked_log → BreaksOnly Blocks (anew_again ∷ worked_log)
blocks_only keeps = breaks_only Blocks worked_log anew_again keeps blocks_breaks blocks_adds
