-- A commit of a transaction that has ended breaks the clause on transactions alone.
use Rattle.std.proofs.Common.{◌≡◌, ◌≢◌, true, [], ◌∷◌, is_ok, refl, sym}
use Rattle.std.proofs.lemmas.Bool.{false≢true}
use Rattle.pg_types.specs.Numbers.{number_at}
use Rattle.heap_tuple.specs.Tuple.{is_lock_only, is_tuple, is_tuple_head, max_of}
use Rattle.heap_page.specs.Item.{with_item}
use Rattle.heap_page.specs.Put.{put_answer, set_head_answer}
use Rattle.heap_redo.specs.Redone.{grown, redone, redone_record, redone_at, redone_block, view_with, with_seen}
use Rattle.heap_redo.specs.After.{after, after_change, change_head, changed, changed_page, joined, put, put_listed, put_version, tuple_of, update, update_old, update_within}
use Rattle.heap_redo.specs.TupleHeads.{deleted, head_bytes, head_of, locked, marked_mask, marked_mask2, replaced}
use Rattle.transaction_model.specs.Transactions.{Live, ended}
use Rattle.transaction_model.specs.LegalTransactions.{CommitRule, Legal}
use Rattle.xact_redo.specs.TransactionsOf.{transaction_of, transactions_of}
use Rattle.row_model.specs.Versions.{changed_at, version_at, with_step, with_steps}
use Rattle.row_model.specs.Locks.{locks, since, up_to_running}
use Rattle.row_model.specs.RowSteps.{births, births_written, block_count, count_with, deleter_of_mark, own_steps, steps_in, update_steps, version_put, version_written, versions, view_after, view_with_record, whole_steps}
use Rattle.row_model.specs.LegalRows.{are_apart, renews_first}
use Rattle.row_model.specs.WorkedRows.{worked_ids, worked_log, worked_origin, worked_table}
use Rattle.row_model.proofs.WorkedLog.{no_locks}
use Rattle.worked_logs.specs.Clauses.{Clause, Births, Deleters, Removals, Cut, Blocks, Locks, CheckpointLocks, Multixacts, Renews, Apart, Shutdowns, Transactions, NewMultixacts, Redone, Keeps}
use Rattle.worked_logs.specs.BrokenLogs.{BreaksOnly, commit_again}
use Rattle.worked_logs.proofs.OneMore.{Adds, WorkedKeeps, breaks_only, no_blocks, renews_two}

no_commit : CommitRule worked_ids 700 [] (transactions_of worked_log) → ⊥
unfolding ended transaction_of
no_commit rule = let live : Live worked_ids.at 700 (transactions_of worked_log) = rule.live 700 refl in false≢true (sym live.not_ended)

transactions_redone : is_ok (view_after worked_origin (worked_table ∷ []) (commit_again ∷ worked_log)) ≡ true
unfolding view_after view_with_record redone_record redone redone_at redone_block after after_change changed_page changed put_listed put tuple_of head_bytes view_with with_seen grown put_answer set_head_answer change_head update update_within update_old put_version joined is_tuple is_tuple_head with_item number_at head_of marked_mask marked_mask2 replaced deleted locked is_lock_only
transactions_redone = refl

transactions_adds : (clause : Clause) → clause ≢ Transactions → Adds clause worked_log commit_again
unfolding versions block_count steps_in count_with own_steps births births_written whole_steps tuple_of head_bytes with_steps with_step version_at max_of is_lock_only number_at update_steps version_put version_written deleter_of_mark joined marked_mask changed_at renews_first since are_apart up_to_running locks transaction_of Legal
transactions_adds Births ne = tt
transactions_adds Deleters ne = tt
transactions_adds Removals ne = tt
transactions_adds Cut ne = tt
transactions_adds Blocks ne = no_blocks worked_log (versions worked_origin worked_table worked_log) (versions worked_origin worked_table (commit_again ∷ worked_log))
transactions_adds Locks ne = no_locks worked_origin worked_table worked_log commit_again refl refl refl
transactions_adds CheckpointLocks ne = tt
transactions_adds Multixacts ne = tt
transactions_adds Renews ne = λ redo h. renews_two (commit_again ∷ worked_log) redo h refl refl
transactions_adds Apart ne = refl
transactions_adds Shutdowns ne = refl
transactions_adds Transactions ne = absurd (ne refl)
transactions_adds NewMultixacts ne = tt
transactions_adds Redone ne = transactions_redone

transactions_breaks : Keeps Transactions worked_origin worked_table (commit_again ∷ worked_log) → ⊥
unfolding Legal transaction_of
transactions_breaks keeps = no_commit keeps.0

pub transactions_only : WorkedKeeps worked_log → BreaksOnly Transactions (commit_again ∷ worked_log)
transactions_only keeps = breaks_only Transactions worked_log commit_again keeps transactions_breaks transactions_adds
