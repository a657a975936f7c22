-- A truncation that takes a block in which versions stand breaks the clause on it alone.
use Rattle.std.proofs.Common.{◌≡◌, ◌≢◌, ◌<◌, true, [], ◌∷◌, is_ok, arith, refl}
use Rattle.std.proofs.lemmas.Bool.{false≢true}
use Rattle.pg_types.specs.Numbers.{number_at}
use Rattle.heap_tuple.specs.Tuple.{is_lock_only, is_tuple, is_tuple_head, max_of}
use Rattle.heap_page.specs.Item.{with_item}
use Rattle.heap_page.specs.Put.{put_answer, set_head_answer}
use Rattle.heap_redo.specs.Redone.{grown, redone, redone_record, redone_at, redone_block, view_with, with_seen}
use Rattle.heap_redo.specs.After.{after, after_change, change_head, changed, changed_page, joined, put, put_listed, put_version, tuple_of, update, update_old, update_within}
use Rattle.heap_redo.specs.TupleHeads.{deleted, head_bytes, head_of, locked, marked_mask, marked_mask2, replaced}
use Rattle.transaction_model.specs.LegalTransactions.{Legal}
use Rattle.xact_redo.specs.TransactionsOf.{transaction_of}
use Rattle.row_model.specs.Versions.{changed_at, version_at, with_step, with_steps, Version}
use Rattle.row_model.specs.Locks.{locks, since, up_to_running}
use Rattle.row_model.specs.RowSteps.{births, births_written, block_count, count_with, deleter_of_mark, own_steps, steps_in, update_steps, version_put, version_written, versions, view_after, view_with_record, whole_steps}
use Rattle.row_model.specs.LegalRows.{CutRule, LockRule, are_apart, renews_first}
use Rattle.row_model.specs.WorkedRows.{second_row, worked_origin, worked_table}
use Rattle.worked_logs.specs.Clauses.{Clause, Births, Deleters, Removals, Cut, Blocks, Locks, CheckpointLocks, Multixacts, Renews, Apart, Shutdowns, Transactions, NewMultixacts, Redone, Keeps}
use Rattle.worked_logs.specs.BrokenLogs.{BreaksOnly, locked_log, truncate_of_rows}
use Rattle.worked_logs.proofs.OneMore.{Adds, WorkedKeeps, breaks_only, no_blocks, renews_two}
use Rattle.worked_logs.proofs.LockedLog.{under_702}
use Rattle.std.proofs.lemmas.List.Elements.{All-head}
use Rattle.std.specs.Prelude.{Some}
use Rattle.row_model.specs.WorkedRows.{first_row}
use Rattle.heap_tuple.specs.declared.tuple_view.MaxOf.TheVariants.{Xid as DeletedBy}

cut_locks : LockRule worked_origin worked_table locked_log truncate_of_rows
cut_locks = record { cut = λ blocks e. under_702; drop = λ e. absurd (false≢true e); gone = λ e. absurd (false≢true e) }

cut_redone : is_ok (view_after worked_origin (worked_table ∷ []) (truncate_of_rows ∷ locked_log)) ≡ true
unfolding view_after view_with_record redone_record redone redone_at redone_block after after_change changed_page changed put_listed put tuple_of head_bytes view_with with_seen grown put_answer set_head_answer change_head update update_within update_old put_version joined is_tuple is_tuple_head with_item number_at head_of marked_mask marked_mask2 replaced deleted locked is_lock_only
cut_redone = refl

cut_adds : (clause : Clause) → clause ≢ Cut → Adds clause locked_log truncate_of_rows
unfolding versions block_count steps_in count_with own_steps births births_written whole_steps tuple_of head_bytes with_steps with_step version_at max_of is_lock_only number_at update_steps version_put version_written deleter_of_mark joined marked_mask changed_at renews_first since are_apart up_to_running locks transaction_of Legal
cut_adds Births ne = tt
cut_adds Deleters ne = tt
cut_adds Removals ne = tt
cut_adds Cut ne = absurd (ne refl)
cut_adds Blocks ne = no_blocks locked_log (versions worked_origin worked_table locked_log) (versions worked_origin worked_table (truncate_of_rows ∷ locked_log))
cut_adds Locks ne = cut_locks
cut_adds CheckpointLocks ne = tt
cut_adds Multixacts ne = tt
cut_adds Renews ne = λ redo h. renews_two (truncate_of_rows ∷ locked_log) redo h refl refl
cut_adds Apart ne = refl
cut_adds Shutdowns ne = refl
cut_adds Transactions ne = λ legal. (tt, legal)
cut_adds NewMultixacts ne = tt
cut_adds Redone ne = cut_redone

-- the row at line 2 of block 0 stands
cut_versions : Keeps Cut worked_origin worked_table (truncate_of_rows ∷ locked_log) → CutRule (Some 0) (second_row ∷ record first_row { deleter = DeletedBy (record { 0 = 701 }) } ∷ [])
unfolding versions block_count steps_in count_with own_steps births births_written whole_steps tuple_of head_bytes with_steps with_step version_at max_of is_lock_only number_at update_steps version_put version_written deleter_of_mark joined marked_mask changed_at
cut_versions keeps = keeps.0

cut_breaks : Keeps Cut worked_origin worked_table (truncate_of_rows ∷ locked_log) → ⊥
cut_breaks keeps =
    let below : 0 < 0 =
    All-head (λ (v : Version). v.holds ≡ true → v.block < 0) second_row (record first_row { deleter = DeletedBy (record { 0 = 701 }) } ∷ []) (cut_versions keeps) refl in
    omega arith

pub cut_only : WorkedKeeps locked_log → BreaksOnly Cut (truncate_of_rows ∷ locked_log)
cut_only keeps = breaks_only Cut locked_log truncate_of_rows keeps cut_breaks cut_adds
