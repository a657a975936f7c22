-- A change of a table after it was dropped breaks the clause on locks alone.
use Rattle.std.proofs.Common.{◌≡◌, ◌≢◌, true, [], ◌∷◌, is_ok, arith, refl, sym}
use Rattle.std.proofs.lemmas.Bool.{false≢true}
use Rattle.pg_types.specs.Numbers.{number_at}
use Rattle.heap_tuple.specs.Tuple.{is_lock_only, is_tuple, is_tuple_head, max_of}
use Rattle.heap_page.specs.Item.{with_item}
use Rattle.heap_page.specs.Put.{put_answer, set_head_answer}
use Rattle.heap_redo.specs.Redone.{grown, redone, redone_record, redone_at, redone_block, cut, view_with, with_seen}
use Rattle.heap_redo.specs.After.{after, after_change, change_head, changed, changed_page, joined, put, put_listed, put_version, tuple_of, update, update_old, update_within}
use Rattle.heap_redo.specs.TupleHeads.{deleted, head_bytes, head_of, locked, marked_mask, marked_mask2, replaced}
use Rattle.transaction_model.specs.Transactions.{Live, ended}
use Rattle.transaction_model.specs.LegalTransactions.{Legal}
use Rattle.xact_redo.specs.TransactionsOf.{transaction_of, transactions_of}
use Rattle.row_model.specs.Versions.{changed_at, version_at, with_step, with_steps}
use Rattle.row_model.specs.Locks.{locks, since, up_to_running}
use Rattle.row_model.specs.RowSteps.{births, births_written, block_count, count_with, deleter_of_mark, own_steps, steps_in, update_steps, version_put, version_written, versions, view_after, view_with_record, whole_steps}
use Rattle.row_model.specs.LegalSteps.{Unmarked}
use Rattle.row_model.specs.LegalRows.{BlocksRule, are_apart, renews_first}
use Rattle.row_model.specs.WorkedRows.{worked_ids, worked_origin, worked_table}
use Rattle.worked_logs.specs.Clauses.{Clause, Births, Deleters, Removals, Cut, Blocks, Locks, CheckpointLocks, Multixacts, Renews, Apart, Shutdowns, Transactions, NewMultixacts, Redone, Keeps}
use Rattle.worked_logs.specs.BrokenLogs.{BreaksOnly, dropped_log, insert_after_drop, new_block}
use Rattle.worked_logs.proofs.OneMore.{Adds, WorkedKeeps, breaks_only, one_block, renews_two}

gone_live : Live worked_ids.at 703 (transactions_of dropped_log)
unfolding ended transaction_of
gone_live = record { normal = omega arith; not_ended = refl }

-- no version stands in the new block
gone_blocks : BlocksRule worked_origin worked_table dropped_log (versions worked_origin worked_table dropped_log) (versions worked_origin worked_table (insert_after_drop ∷ dropped_log)) (new_block ∷ [])
unfolding versions block_count steps_in count_with own_steps births births_written whole_steps tuple_of head_bytes with_steps with_step version_at max_of is_lock_only number_at update_steps version_put version_written deleter_of_mark joined marked_mask changed_at
gone_blocks = one_block dropped_log (versions worked_origin worked_table dropped_log) (versions worked_origin worked_table (insert_after_drop ∷ dropped_log)) new_block (λ e. (tt, λ anew line. refl))

gone_redone : is_ok (view_after worked_origin (worked_table ∷ []) (insert_after_drop ∷ dropped_log)) ≡ true
unfolding view_after view_with_record redone_record redone redone_at redone_block after after_change changed_page changed put_listed put tuple_of head_bytes view_with with_seen grown put_answer set_head_answer change_head update update_within update_old put_version joined is_tuple is_tuple_head with_item number_at head_of marked_mask marked_mask2 replaced deleted locked is_lock_only cut
gone_redone = refl

gone_adds : (clause : Clause) → clause ≢ Locks → Adds clause dropped_log insert_after_drop
unfolding versions block_count steps_in count_with own_steps births births_written whole_steps tuple_of head_bytes with_steps with_step version_at max_of is_lock_only number_at update_steps version_put version_written deleter_of_mark joined marked_mask changed_at renews_first since are_apart up_to_running locks transaction_of Legal
gone_adds Births ne = (record { free = refl; live = gone_live; inserter = Unmarked refl; unmarked = refl; spent = λ outside. tt }, tt)
gone_adds Deleters ne = (tt, tt)
gone_adds Removals ne = (tt, tt)
gone_adds Cut ne = tt
gone_adds Blocks ne = gone_blocks
gone_adds Locks ne = absurd (ne refl)
gone_adds CheckpointLocks ne = tt
gone_adds Multixacts ne = (tt, tt)
gone_adds Renews ne = λ redo h. renews_two (insert_after_drop ∷ dropped_log) redo h refl refl
gone_adds Apart ne = refl
gone_adds Shutdowns ne = refl
gone_adds Transactions ne = λ legal. (tt, legal)
gone_adds NewMultixacts ne = tt
gone_adds Redone ne = gone_redone

gone_breaks : Keeps Locks worked_origin worked_table (insert_after_drop ∷ dropped_log) → ⊥
gone_breaks keeps = false≢true (sym (keeps.0.gone refl))

pub gone_only : WorkedKeeps dropped_log → BreaksOnly Locks (insert_after_drop ∷ dropped_log)
gone_only keeps = breaks_only Locks dropped_log insert_after_drop keeps gone_breaks gone_adds
