-- A freeze with a horizon that stays below the inserter's id breaks the clause on removals alone.
use Rattle.std.proofs.Common.{◌≡◌, ◌≢◌, true, [], ◌∷◌, is_ok, refl}
use Rattle.pg_types.specs.Numbers.{number_at}
use Rattle.heap_tuple.specs.Tuple.{is_lock_only, is_tuple, is_tuple_head, max_of}
use Rattle.heap_page.specs.Item.{with_item}
use Rattle.heap_page.specs.Put.{put_answer, set_head_answer}
use Rattle.heap_redo.specs.Redone.{grown, redone, redone_record, redone_at, redone_block, view_with, with_seen}
use Rattle.heap_redo.specs.After.{after, after_change, change_head, changed, changed_page, joined, put, put_listed, put_version, tuple_of, update, update_old, update_within, freeze, freeze_lines}
use Rattle.heap_redo.specs.TupleHeads.{deleted, head_bytes, head_of, locked, marked_mask, marked_mask2, replaced}
use Rattle.transaction_model.specs.LegalTransactions.{Legal}
use Rattle.xact_redo.specs.TransactionsOf.{transaction_of}
use Rattle.row_model.specs.Versions.{changed_at, version_at, with_step, with_steps, deleter_of_plan}
use Rattle.row_model.specs.Locks.{locks, since, up_to_running}
use Rattle.row_model.specs.RowSteps.{births, births_written, block_count, count_with, deleter_of_mark, own_steps, steps_in, update_steps, version_put, version_written, versions, view_after, view_with_record, whole_steps, freezes_in, frozen_written, plan_of}
use Rattle.row_model.specs.LegalSteps.{PlanRule, Stays}
use Rattle.row_model.specs.LegalRows.{are_apart, renews_first}
use Rattle.row_model.specs.WorkedRows.{second_row, worked_log, worked_origin, worked_table}
use Rattle.row_model.proofs.WorkedLog.{no_locks}
use Rattle.worked_logs.specs.Clauses.{Clause, Births, Deleters, Removals, Cut, Blocks, Locks, CheckpointLocks, Multixacts, Renews, Apart, Shutdowns, Transactions, NewMultixacts, Redone, Keeps}
use Rattle.worked_logs.specs.BrokenLogs.{BreaksOnly, freeze_below, frozen_plan}
use Rattle.worked_logs.proofs.OneMore.{Adds, WorkedKeeps, bare_rule, breaks_only, no_blocks, renews_two}
use Rattle.worked_logs.proofs.BrokenHorizon.{not_covered}

frozen_rule : Keeps Removals worked_origin worked_table (freeze_below ∷ worked_log) → PlanRule worked_origin worked_log 700 (plan_of frozen_plan) second_row
unfolding versions block_count steps_in count_with own_steps births births_written whole_steps tuple_of head_bytes with_steps with_step version_at max_of is_lock_only number_at update_steps version_put version_written deleter_of_mark joined marked_mask changed_at freezes_in frozen_written deleter_of_plan
frozen_rule keeps = keeps.0.0

frozen_redone : is_ok (view_after worked_origin (worked_table ∷ []) (freeze_below ∷ worked_log)) ≡ true
unfolding view_after view_with_record redone_record redone redone_at redone_block after after_change changed_page changed put_listed put tuple_of head_bytes view_with with_seen grown put_answer set_head_answer change_head update update_within update_old put_version joined is_tuple is_tuple_head with_item number_at head_of marked_mask marked_mask2 replaced deleted locked is_lock_only freeze freeze_lines
frozen_redone = refl

frozen_adds : (clause : Clause) → clause ≢ Removals → Adds clause worked_log freeze_below
unfolding versions block_count steps_in count_with own_steps births births_written whole_steps tuple_of head_bytes with_steps with_step version_at max_of is_lock_only number_at update_steps version_put version_written deleter_of_mark joined marked_mask changed_at renews_first since are_apart up_to_running locks transaction_of Legal freezes_in frozen_written deleter_of_plan
frozen_adds Births ne = (tt, tt)
frozen_adds Deleters ne = (Stays refl, tt)
frozen_adds Removals ne = absurd (ne refl)
frozen_adds Cut ne = tt
frozen_adds Blocks ne = bare_rule worked_log (versions worked_origin worked_table worked_log) (versions worked_origin worked_table (freeze_below ∷ worked_log)) 0 [] (no_blocks worked_log (versions worked_origin worked_table worked_log) (versions worked_origin worked_table (freeze_below ∷ worked_log)))
frozen_adds Locks ne = no_locks worked_origin worked_table worked_log freeze_below refl refl refl
frozen_adds CheckpointLocks ne = tt
frozen_adds Multixacts ne = (tt, tt)
frozen_adds Renews ne = λ redo h. renews_two (freeze_below ∷ worked_log) redo h refl refl
frozen_adds Apart ne = refl
frozen_adds Shutdowns ne = refl
frozen_adds Transactions ne = λ legal. (tt, legal)
frozen_adds NewMultixacts ne = tt
frozen_adds Redone ne = frozen_redone

frozen_breaks : Keeps Removals worked_origin worked_table (freeze_below ∷ worked_log) → ⊥
frozen_breaks keeps =
    let (x, by, done, covers) = (frozen_rule keeps).covered refl refl in
    let same : 701 ≡ x = cc in not_covered x same covers

pub frozen_only : WorkedKeeps worked_log → BreaksOnly Removals (freeze_below ∷ worked_log)
frozen_only keeps = breaks_only Removals worked_log freeze_below keeps frozen_breaks frozen_adds
