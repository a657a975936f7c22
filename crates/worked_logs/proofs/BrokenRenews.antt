-- A change after a checkpoint's redo without an image breaks the clause on images alone.
use Rattle.std.proofs.Common.{◌≡◌, ◌≢◌, true, [], ◌∷◌, is_ok, arith, refl}
use Rattle.std.proofs.lemmas.Bool.{false≢true}
use Rattle.pg_types.specs.Numbers.{number_at}
use Rattle.heap_tuple.specs.Tuple.{is_lock_only, is_tuple, is_tuple_head, max_of}
use Rattle.heap_page.specs.Item.{with_item}
use Rattle.heap_page.specs.Put.{put_answer, set_head_answer}
use Rattle.heap_redo.specs.Redone.{grown, redone, redone_record, redone_at, redone_block, view_with, with_seen}
use Rattle.heap_redo.specs.After.{after, after_change, change_head, changed, changed_page, joined, put, put_listed, put_version, tuple_of, update, update_old, update_within}
use Rattle.heap_redo.specs.TupleHeads.{deleted, head_bytes, head_of, locked, marked_mask, marked_mask2, replaced}
use Rattle.transaction_model.specs.Transactions.{Live, ended}
use Rattle.transaction_model.specs.LegalTransactions.{Legal}
use Rattle.xact_redo.specs.TransactionsOf.{transaction_of, transactions_of}
use Rattle.row_model.specs.Versions.{changed_at, version_at, with_step, with_steps}
use Rattle.row_model.specs.Locks.{locks, since, up_to_running}
use Rattle.row_model.specs.RowSteps.{births, births_written, block_count, count_with, deleter_of_mark, own_steps, steps_in, update_steps, version_put, version_written, versions, view_after, view_with_record, whole_steps}
use Rattle.row_model.specs.LegalSteps.{Unmarked}
use Rattle.row_model.specs.LegalRows.{are_apart, renews_first}
use Rattle.row_model.specs.WorkedRows.{worked_ids, worked_origin, worked_table}
use Rattle.row_model.proofs.WorkedLog.{no_locks}
use Rattle.worked_logs.specs.Clauses.{Clause, Births, Deleters, Removals, Cut, Blocks, Locks, CheckpointLocks, Multixacts, Renews, Apart, Shutdowns, Transactions, NewMultixacts, Redone, Keeps}
use Rattle.worked_logs.specs.BrokenLogs.{BreaksOnly, insert_without_image, worked_checkpoint}
use Rattle.worked_logs.proofs.OneMore.{Adds, WorkedKeeps, block_rule, breaks_only}

late_live : Live worked_ids.at 702 (transactions_of worked_checkpoint)
unfolding ended transaction_of
late_live = record { normal = omega arith; not_ended = refl }

renews_redone : is_ok (view_after worked_origin (worked_table ∷ []) (insert_without_image ∷ worked_checkpoint)) ≡ true
unfolding view_after view_with_record redone_record redone redone_at redone_block after after_change changed_page changed put_listed put tuple_of head_bytes view_with with_seen grown put_answer set_head_answer change_head update update_within update_old put_version joined is_tuple is_tuple_head with_item number_at head_of marked_mask marked_mask2 replaced deleted locked is_lock_only
renews_redone = refl

renews_adds : (clause : Clause) → clause ≢ Renews → Adds clause worked_checkpoint insert_without_image
unfolding versions block_count steps_in count_with own_steps births births_written whole_steps tuple_of head_bytes with_steps with_step version_at max_of is_lock_only number_at update_steps version_put version_written deleter_of_mark joined marked_mask changed_at renews_first since are_apart up_to_running locks transaction_of Legal
renews_adds Births ne = (record { free = refl; live = late_live; inserter = Unmarked refl; unmarked = refl; spent = λ outside. tt }, tt)
renews_adds Deleters ne = (tt, tt)
renews_adds Removals ne = (tt, tt)
renews_adds Cut ne = tt
renews_adds Blocks ne = block_rule worked_checkpoint (versions worked_origin worked_table worked_checkpoint) (versions worked_origin worked_table (insert_without_image ∷ worked_checkpoint))
renews_adds Locks ne = no_locks worked_origin worked_table worked_checkpoint insert_without_image refl refl refl
renews_adds CheckpointLocks ne = tt
renews_adds Multixacts ne = (tt, tt)
renews_adds Renews ne = absurd (ne refl)
renews_adds Apart ne = refl
renews_adds Shutdowns ne = refl
renews_adds Transactions ne = λ legal. (tt, legal)
renews_adds NewMultixacts ne = tt
renews_adds Redone ne = renews_redone

renews_breaks : Keeps Renews worked_origin worked_table (insert_without_image ∷ worked_checkpoint) → ⊥
unfolding versions block_count steps_in count_with own_steps births births_written whole_steps tuple_of head_bytes with_steps with_step version_at max_of is_lock_only number_at update_steps version_put version_written deleter_of_mark joined marked_mask changed_at renews_first since are_apart up_to_running locks transaction_of Legal
renews_breaks keeps = false≢true (keeps 0x20001F0 refl)

pub renews_only : WorkedKeeps worked_checkpoint → BreaksOnly Renews (insert_without_image ∷ worked_checkpoint)
renews_only keeps = breaks_only Renews worked_checkpoint insert_without_image keeps renews_breaks renews_adds
