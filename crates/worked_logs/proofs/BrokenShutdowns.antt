-- A shutdown checkpoint whose redo is not its own start breaks the clause on shutdowns alone.
use Rattle.std.proofs.Common.{◌≡◌, ◌≢◌, true, [], ◌∷◌, is_ok, refl}
use Rattle.std.proofs.lemmas.Bool.{false≢true}
use Rattle.std.proofs.lemmas.List.Elements.{All-head}
use Rattle.pg_types.specs.Numbers.{number_at}
use Rattle.typed_records.specs.declared.types.Rec.{Rec}
use Rattle.heap_tuple.specs.Tuple.{is_lock_only, is_tuple, is_tuple_head, max_of}
use Rattle.heap_page.specs.Item.{with_item}
use Rattle.heap_page.specs.Put.{put_answer, set_head_answer}
use Rattle.heap_redo.specs.Redone.{grown, redone, redone_record, redone_at, redone_block, view_with, with_seen}
use Rattle.heap_redo.specs.After.{after, after_change, change_head, changed, changed_page, joined, put, put_listed, put_version, tuple_of, update, update_old, update_within}
use Rattle.heap_redo.specs.TupleHeads.{deleted, head_bytes, head_of, locked, marked_mask, marked_mask2, replaced}
use Rattle.transaction_model.specs.LegalTransactions.{Legal}
use Rattle.xact_redo.specs.TransactionsOf.{transaction_of}
use Rattle.row_model.specs.Versions.{changed_at, version_at, with_step, with_steps}
use Rattle.row_model.specs.Locks.{locks, since, up_to_running}
use Rattle.row_model.specs.RowSteps.{births, births_written, block_count, count_with, deleter_of_mark, own_steps, steps_in, update_steps, version_put, version_written, versions, view_after, view_with_record, whole_steps}
use Rattle.row_model.specs.LegalRows.{are_apart, is_redo_own, renews_first}
use Rattle.row_model.specs.WorkedRows.{worked_log, worked_origin, worked_table}
use Rattle.row_model.proofs.WorkedLog.{no_locks}
use Rattle.worked_logs.specs.Clauses.{Clause, Births, Deleters, Removals, Cut, Blocks, Locks, CheckpointLocks, Multixacts, Renews, Apart, Shutdowns, Transactions, NewMultixacts, Redone, Keeps}
use Rattle.worked_logs.specs.BrokenLogs.{BreaksOnly, shutdown_elsewhere}
use Rattle.worked_logs.proofs.OneMore.{Adds, WorkedKeeps, breaks_only, no_blocks, renews_three}
use Rattle.worked_logs.proofs.NextId.{shutdown_rule}

shutdowns_redone : is_ok (view_after worked_origin (worked_table ∷ []) (shutdown_elsewhere ∷ worked_log)) ≡ true
unfolding view_after view_with_record redone_record redone redone_at redone_block after after_change changed_page changed put_listed put tuple_of head_bytes view_with with_seen grown put_answer set_head_answer change_head update update_within update_old put_version joined is_tuple is_tuple_head with_item number_at head_of marked_mask marked_mask2 replaced deleted locked is_lock_only
shutdowns_redone = refl

shutdowns_adds : (clause : Clause) → clause ≢ Shutdowns → Adds clause worked_log shutdown_elsewhere
unfolding versions block_count steps_in count_with own_steps births births_written whole_steps tuple_of head_bytes with_steps with_step version_at max_of is_lock_only number_at update_steps version_put version_written deleter_of_mark joined marked_mask changed_at renews_first since are_apart up_to_running locks transaction_of Legal
shutdowns_adds Births ne = tt
shutdowns_adds Deleters ne = tt
shutdowns_adds Removals ne = tt
shutdowns_adds Cut ne = tt
shutdowns_adds Blocks ne = no_blocks worked_log (versions worked_origin worked_table worked_log) (versions worked_origin worked_table (shutdown_elsewhere ∷ worked_log))
shutdowns_adds Locks ne = no_locks worked_origin worked_table worked_log shutdown_elsewhere refl refl refl
shutdowns_adds CheckpointLocks ne = tt
shutdowns_adds Multixacts ne = tt
shutdowns_adds Renews ne = λ redo h. renews_three 0x20001F0 (shutdown_elsewhere ∷ worked_log) redo h refl refl refl
shutdowns_adds Apart ne = refl
shutdowns_adds Shutdowns ne = absurd (ne refl)
shutdowns_adds Transactions ne = λ legal. (shutdown_rule, legal)
shutdowns_adds NewMultixacts ne = tt
shutdowns_adds Redone ne = shutdowns_redone

shutdowns_breaks : Keeps Shutdowns worked_origin worked_table (shutdown_elsewhere ∷ worked_log) → ⊥
unfolding versions block_count steps_in count_with own_steps births births_written whole_steps tuple_of head_bytes with_steps with_step version_at max_of is_lock_only number_at update_steps version_put version_written deleter_of_mark joined marked_mask changed_at renews_first since are_apart up_to_running locks transaction_of Legal
shutdowns_breaks keeps = false≢true (All-head (λ (r : Rec). is_redo_own r ≡ true) shutdown_elsewhere worked_log keeps)

pub shutdowns_only : WorkedKeeps worked_log → BreaksOnly Shutdowns (shutdown_elsewhere ∷ worked_log)
shutdowns_only keeps = breaks_only Shutdowns worked_log shutdown_elsewhere keeps shutdowns_breaks shutdowns_adds
