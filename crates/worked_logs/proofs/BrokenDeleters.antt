-- A delete by a transaction that has ended breaks the clause on deleters alone.
use Rattle.std.proofs.Common.{◌≡◌, ◌≢◌, true, [], ◌∷◌, is_ok, refl, sym, subst}
use Rattle.std.proofs.lemmas.Bool.{false≢true}
use Rattle.pg_types.specs.Numbers.{number_at}
use Rattle.heap_tuple.specs.declared.tuple_view.MaxOf.TheVariants.{Xid as DeletedBy}
use Rattle.heap_tuple.specs.Tuple.{is_lock_only, is_tuple, is_tuple_head, max_of}
use Rattle.heap_page.specs.Item.{with_item}
use Rattle.heap_page.specs.Put.{put_answer, set_head_answer}
use Rattle.heap_redo.specs.Redone.{grown, redone, redone_record, redone_at, redone_block, view_with, with_seen}
use Rattle.heap_redo.specs.After.{after, after_change, change_head, changed, changed_page, joined, put, put_listed, put_version, tuple_of, update, update_old, update_within}
use Rattle.heap_redo.specs.TupleHeads.{deleted, head_bytes, head_of, locked, marked_mask, marked_mask2, replaced}
use Rattle.transaction_model.specs.Transactions.{committed, ended}
use Rattle.transaction_model.specs.LegalTransactions.{Legal}
use Rattle.xact_redo.specs.TransactionsOf.{transaction_of}
use Rattle.row_model.specs.Versions.{changed_at, version_at, with_step, with_steps}
use Rattle.row_model.specs.Origins.{IsLive}
use Rattle.row_model.specs.Locks.{locks, since, up_to_running}
use Rattle.row_model.specs.RowSteps.{births, births_written, block_count, count_with, deleter_of_mark, own_steps, steps_in, update_steps, version_put, version_written, versions, view_after, view_with_record, whole_steps}
use Rattle.row_model.specs.LegalSteps.{Fades, MayFollow, Stays, Takes}
use Rattle.row_model.specs.LegalRows.{are_apart, renews_first}
use Rattle.row_model.specs.WorkedRows.{second_row, worked_log, worked_origin, worked_table}
use Rattle.row_model.proofs.WorkedLog.{no_locks}
use Rattle.worked_logs.specs.Clauses.{Clause, Births, Deleters, Removals, Cut, Blocks, Locks, CheckpointLocks, Multixacts, Renews, Apart, Shutdowns, Transactions, NewMultixacts, Redone, Keeps}
use Rattle.worked_logs.specs.BrokenLogs.{BreaksOnly, delete_by_ended}
use Rattle.worked_logs.proofs.OneMore.{Adds, WorkedKeeps, bare_rule, breaks_only, no_blocks, renews_two}

no_delete : MayFollow worked_origin worked_log second_row (DeletedBy (record { 0 = 700 })) → ⊥
unfolding ended committed transaction_of
no_delete (Stays e) = cc
no_delete (Takes x e live spent may) =
    let same : 700 ≡ x = cc in
    let dead : IsLive worked_origin worked_log 700 = subst (IsLive worked_origin worked_log) (sym same) live in
    false≢true (sym dead.not_ended)
no_delete (Fades was now) = false≢true (sym now.not_committed)

deleters_follow : Keeps Deleters worked_origin worked_table (delete_by_ended ∷ worked_log) → MayFollow worked_origin worked_log second_row (DeletedBy (record { 0 = 700 }))
unfolding versions block_count steps_in count_with own_steps births births_written whole_steps tuple_of head_bytes with_steps with_step version_at max_of is_lock_only number_at update_steps version_put version_written deleter_of_mark joined marked_mask changed_at
deleters_follow keeps = keeps.0.0

deleters_redone : is_ok (view_after worked_origin (worked_table ∷ []) (delete_by_ended ∷ worked_log)) ≡ true
unfolding view_after view_with_record redone_record redone redone_at redone_block after after_change changed_page changed put_listed put tuple_of head_bytes view_with with_seen grown put_answer set_head_answer change_head update update_within update_old put_version joined is_tuple is_tuple_head with_item number_at head_of marked_mask marked_mask2 replaced deleted locked is_lock_only
deleters_redone = refl

deleters_adds : (clause : Clause) → clause ≢ Deleters → Adds clause worked_log delete_by_ended
unfolding versions block_count steps_in count_with own_steps births births_written whole_steps tuple_of head_bytes with_steps with_step version_at max_of is_lock_only number_at update_steps version_put version_written deleter_of_mark joined marked_mask changed_at renews_first since are_apart up_to_running locks transaction_of Legal
deleters_adds Births ne = (tt, tt)
deleters_adds Deleters ne = absurd (ne refl)
deleters_adds Removals ne = (tt, tt)
deleters_adds Cut ne = tt
deleters_adds Blocks ne = bare_rule worked_log (versions worked_origin worked_table worked_log) (versions worked_origin worked_table (delete_by_ended ∷ worked_log)) 0 [] (no_blocks worked_log (versions worked_origin worked_table worked_log) (versions worked_origin worked_table (delete_by_ended ∷ worked_log)))
deleters_adds Locks ne = no_locks worked_origin worked_table worked_log delete_by_ended refl refl refl
deleters_adds CheckpointLocks ne = tt
deleters_adds Multixacts ne = (tt, tt)
deleters_adds Renews ne = λ redo h. renews_two (delete_by_ended ∷ worked_log) redo h refl refl
deleters_adds Apart ne = refl
deleters_adds Shutdowns ne = refl
deleters_adds Transactions ne = λ legal. (tt, legal)
deleters_adds NewMultixacts ne = tt
deleters_adds Redone ne = deleters_redone

deleters_breaks : Keeps Deleters worked_origin worked_table (delete_by_ended ∷ worked_log) → ⊥
unfolding transaction_of
deleters_breaks keeps = no_delete (deleters_follow keeps)

pub deleters_only : WorkedKeeps worked_log → BreaksOnly Deleters (delete_by_ended ∷ worked_log)
deleters_only keeps = breaks_only Deleters worked_log delete_by_ended keeps deleters_breaks deleters_adds
