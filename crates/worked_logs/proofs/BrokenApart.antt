-- A record that has a block twice breaks the clause on blocks that are apart alone.
use Rattle.std.proofs.Common.{◌≡◌, ◌≢◌, true, false, [], ◌∷◌, is_ok, refl}
use Rattle.std.proofs.lemmas.Bool.{false≢true}
use Rattle.std.proofs.lemmas.List.Elements.{All-head}
use Rattle.pg_types.specs.Numbers.{number_at}
use Rattle.typed_records.specs.declared.types.Rec.{Rec}
use Rattle.heap_tuple.specs.Tuple.{is_lock_only, is_tuple, is_tuple_head, max_of}
use Rattle.heap_page.specs.Item.{with_item}
use Rattle.heap_page.specs.Put.{put_answer, set_head_answer}
use Rattle.heap_redo.specs.Redone.{grown, redone, redone_record, redone_at, redone_block, view_with, with_seen}
use Rattle.heap_redo.specs.After.{after, after_change, change_head, changed, changed_page, joined, put, put_listed, put_version, tuple_of, update, update_old, update_within}
use Rattle.heap_redo.specs.TupleHeads.{deleted, head_bytes, head_of, locked, marked_mask, marked_mask2, replaced}
use Rattle.transaction_model.specs.LegalTransactions.{Legal}
use Rattle.xact_redo.specs.TransactionsOf.{transaction_of}
use Rattle.row_model.specs.Versions.{changed_at, version_at, with_step, with_steps}
use Rattle.row_model.specs.Locks.{locks, since, up_to_running}
use Rattle.row_model.specs.RowSteps.{births, births_written, block_count, count_with, deleter_of_mark, own_steps, steps_in, update_steps, version_put, version_written, versions, view_after, view_with_record, whole_steps}
use Rattle.row_model.specs.LegalRows.{are_apart, renews_first}
use Rattle.row_model.specs.WorkedRows.{worked_log, worked_origin, worked_table}
use Rattle.row_model.proofs.WorkedLog.{no_locks}
use Rattle.worked_logs.specs.Clauses.{Clause, Births, Deleters, Removals, Cut, Blocks, Locks, CheckpointLocks, Multixacts, Renews, Apart, Shutdowns, Transactions, NewMultixacts, Redone, Keeps}
use Rattle.worked_logs.specs.BrokenLogs.{BreaksOnly, bare_block, block_twice}
use Rattle.worked_logs.proofs.OneMore.{Adds, WorkedKeeps, bare_rule, breaks_only, no_blocks, renews_two}

apart_redone : is_ok (view_after worked_origin (worked_table ∷ []) (block_twice ∷ worked_log)) ≡ true
unfolding view_after view_with_record redone_record redone redone_at redone_block after after_change changed_page changed put_listed put tuple_of head_bytes view_with with_seen grown put_answer set_head_answer change_head update update_within update_old put_version joined is_tuple is_tuple_head with_item number_at head_of marked_mask marked_mask2 replaced deleted locked is_lock_only
apart_redone = refl

apart_adds : (clause : Clause) → clause ≢ Apart → Adds clause worked_log block_twice
unfolding versions block_count steps_in count_with own_steps births births_written whole_steps tuple_of head_bytes with_steps with_step version_at max_of is_lock_only number_at update_steps version_put version_written deleter_of_mark joined marked_mask changed_at renews_first since are_apart up_to_running locks transaction_of Legal
apart_adds Births ne = tt
apart_adds Deleters ne = tt
apart_adds Removals ne = tt
apart_adds Cut ne = tt
apart_adds Blocks ne = bare_rule worked_log (versions worked_origin worked_table worked_log) (versions worked_origin worked_table (block_twice ∷ worked_log)) 0 (bare_block 1 false ∷ []) (bare_rule worked_log (versions worked_origin worked_table worked_log) (versions worked_origin worked_table (block_twice ∷ worked_log)) 1 [] (no_blocks worked_log (versions worked_origin worked_table worked_log) (versions worked_origin worked_table (block_twice ∷ worked_log))))
apart_adds Locks ne = no_locks worked_origin worked_table worked_log block_twice refl refl refl
apart_adds CheckpointLocks ne = tt
apart_adds Multixacts ne = tt
apart_adds Renews ne = λ redo h. renews_two (block_twice ∷ worked_log) redo h refl refl
apart_adds Apart ne = absurd (ne refl)
apart_adds Shutdowns ne = refl
apart_adds Transactions ne = λ legal. (tt, legal)
apart_adds NewMultixacts ne = tt
apart_adds Redone ne = apart_redone

apart_breaks : Keeps Apart worked_origin worked_table (block_twice ∷ worked_log) → ⊥
unfolding versions block_count steps_in count_with own_steps births births_written whole_steps tuple_of head_bytes with_steps with_step version_at max_of is_lock_only number_at update_steps version_put version_written deleter_of_mark joined marked_mask changed_at renews_first since are_apart up_to_running locks transaction_of Legal
apart_breaks keeps = false≢true (All-head (λ (r : Rec). are_apart r.blocks ≡ true) block_twice worked_log keeps)

pub apart_only : WorkedKeeps worked_log → BreaksOnly Apart (block_twice ∷ worked_log)
apart_only keeps = breaks_only Apart worked_log block_twice keeps apart_breaks apart_adds
