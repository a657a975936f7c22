-- A prune and a freeze that their horizons cover keep each clause.
use Rattle.std.proofs.Common.{◌≡◌, true, [], ◌∷◌, is_ok, arith, refl}
use Rattle.std.proofs.lemmas.Bool.{false≢true}
use Rattle.pg_types.specs.Numbers.{number_at}
use Rattle.heap_tuple.specs.Tuple.{is_lock_only, is_tuple, is_tuple_head, max_of}
use Rattle.heap_page.specs.Item.{with_item}
use Rattle.heap_page.specs.Put.{put_answer, set_head_answer, set_line_answer}
use Rattle.heap_redo.specs.Redone.{grown, redone, redone_record, redone_at, redone_block, view_with, with_seen}
use Rattle.heap_redo.specs.After.{after, after_change, change_head, changed, changed_page, joined, put, put_listed, put_version, tuple_of, update, update_old, update_within, freeze, freeze_lines, prune, redirect_line, redirect_lines, set_line, set_lines}
use Rattle.heap_redo.specs.TupleHeads.{deleted, head_bytes, head_of, locked, marked_mask, marked_mask2, replaced}
use Rattle.transaction_model.specs.Transactions.{committed}
use Rattle.transaction_model.specs.LegalTransactions.{Legal}
use Rattle.heap_tuple.specs.declared.tuple_view.MaxOf.TheVariants.{Xid as DeletedBy}
use Rattle.xact_redo.specs.TransactionsOf.{transaction_of}
use Rattle.row_model.specs.Versions.{changed_at, version_at, with_step, with_steps, Version, deleter_of_plan, frozen_by}
use Rattle.row_model.specs.Origins.{committed_in}
use Rattle.row_model.specs.Shows.{Shows}
use Rattle.row_model.specs.Locks.{locks, since, up_to_running}
use Rattle.row_model.specs.RowSteps.{births, births_written, block_count, count_with, deleter_of_mark, own_steps, steps_in, update_steps, version_put, version_written, versions, view_after, view_with_record, whole_steps, freezes_in, frozen_written, plan_of, removals, removals_written}
use Rattle.row_model.specs.LegalSteps.{AtLeast, MayBeRemoved, PlanRule, Stays, WasDeleted, planned}
use Rattle.row_model.specs.LegalRows.{are_apart, renews_first}
use Rattle.row_model.specs.WorkedRows.{first_row, second_row, worked_log, worked_origin, worked_table}
use Rattle.row_model.proofs.WorkedLog.{no_locks}
use Rattle.worked_logs.specs.Clauses.{Clause, Births, Deleters, Removals, Cut, Blocks, Locks, CheckpointLocks, Multixacts, Renews, Apart, Shutdowns, Transactions, NewMultixacts, Redone}
use Rattle.worked_logs.specs.BrokenLogs.{frozen_plan}
use Rattle.worked_logs.proofs.OneMore.{Adds, WorkedKeeps, bare_rule, each_keeps, no_blocks, renews_two}
use Rattle.worked_logs.specs.RemovalLog.{freeze_of_row, frozen_log, prune_of_replaced}

-- the version at line 1, whose deleter committed
abbrev replaced_row : Version
replaced_row = record first_row { deleter = DeletedBy (record { 0 = 701 }) }

deleter_committed : committed_in worked_origin worked_log 701 ≡ true
unfolding committed transaction_of
deleter_committed = refl

may_go : MayBeRemoved worked_origin worked_log 701 replaced_row
may_go = WasDeleted 701 refl deleter_committed (λ counts. AtLeast (omega arith))

replaced_redone : is_ok (view_after worked_origin (worked_table ∷ []) (prune_of_replaced ∷ worked_log)) ≡ true
unfolding view_after view_with_record redone_record redone redone_at redone_block after after_change changed_page changed put_listed put tuple_of head_bytes view_with with_seen grown put_answer set_head_answer change_head update update_within update_old put_version joined is_tuple is_tuple_head with_item number_at head_of marked_mask marked_mask2 replaced deleted locked is_lock_only prune redirect_lines redirect_line set_lines set_line set_line_answer
replaced_redone = refl

replaced_adds : (clause : Clause) → Adds clause worked_log prune_of_replaced
unfolding versions block_count steps_in count_with own_steps births births_written whole_steps tuple_of head_bytes with_steps with_step version_at max_of is_lock_only number_at update_steps version_put version_written deleter_of_mark joined marked_mask changed_at renews_first since are_apart up_to_running locks transaction_of Legal removals removals_written
replaced_adds Births = (tt, tt)
replaced_adds Deleters = (tt, tt)
replaced_adds Removals = (may_go, tt)
replaced_adds Cut = tt
replaced_adds Blocks = bare_rule worked_log (versions worked_origin worked_table worked_log) (versions worked_origin worked_table (prune_of_replaced ∷ worked_log)) 0 [] (no_blocks worked_log (versions worked_origin worked_table worked_log) (versions worked_origin worked_table (prune_of_replaced ∷ worked_log)))
replaced_adds Locks = no_locks worked_origin worked_table worked_log prune_of_replaced refl refl refl
replaced_adds CheckpointLocks = tt
replaced_adds Multixacts = (tt, tt)
replaced_adds Renews = λ redo h. renews_two (prune_of_replaced ∷ worked_log) redo h refl refl
replaced_adds Apart = refl
replaced_adds Shutdowns = refl
replaced_adds Transactions = λ legal. (tt, legal)
replaced_adds NewMultixacts = tt
replaced_adds Redone = replaced_redone

-- the tuple of the row that stands, with the plan, shows it: no mark speaks of its inserter or of a deleter
shows_frozen : Shows worked_origin (prune_of_replaced ∷ worked_log) (frozen_by (plan_of frozen_plan) second_row) (planned (plan_of frozen_plan) second_row)
unfolding planned head_of head_bytes number_at max_of is_lock_only deleter_of_plan
shows_frozen =
    record {
      row = record { columns = refl; nulls = refl; bytes = refl };
      inserter = refl;
      frozen = refl;
      deleter = refl;
      marks =
          record {
            inserter_committed = λ x by marked. absurd (omega arith);
            inserter_failed = λ x by marked. absurd (omega arith);
            deleter_committed = λ x by marked. absurd (cc);
            deleter_failed = λ x by marked. absurd (cc);
          };
    }

inserter_committed : committed_in worked_origin (prune_of_replaced ∷ worked_log) 701 ≡ true
unfolding committed transaction_of
inserter_committed = refl

may_freeze : PlanRule worked_origin (prune_of_replaced ∷ worked_log) 701 (plan_of frozen_plan) second_row
may_freeze =
    record {
      shows = shows_frozen;
      stays = λ e. absurd (false≢true e);
      covered = λ thawed freezes. (701, refl, inserter_committed, AtLeast (omega arith));
    }

freeze_redone : is_ok (view_after worked_origin (worked_table ∷ []) (freeze_of_row ∷ (prune_of_replaced ∷ worked_log))) ≡ true
unfolding view_after view_with_record redone_record redone redone_at redone_block after after_change changed_page changed put_listed put tuple_of head_bytes view_with with_seen grown put_answer set_head_answer change_head update update_within update_old put_version joined is_tuple is_tuple_head with_item number_at head_of marked_mask marked_mask2 replaced deleted locked is_lock_only prune redirect_lines redirect_line set_lines set_line set_line_answer freeze freeze_lines
freeze_redone = refl

freeze_adds : (clause : Clause) → Adds clause (prune_of_replaced ∷ worked_log) freeze_of_row
unfolding versions block_count steps_in count_with own_steps births births_written whole_steps tuple_of head_bytes with_steps with_step version_at max_of is_lock_only number_at update_steps version_put version_written deleter_of_mark joined marked_mask changed_at renews_first since are_apart up_to_running locks transaction_of Legal removals removals_written freezes_in frozen_written deleter_of_plan
freeze_adds Births = (tt, tt)
freeze_adds Deleters = (Stays refl, tt)
freeze_adds Removals = (may_freeze, tt)
freeze_adds Cut = tt
freeze_adds Blocks = bare_rule (prune_of_replaced ∷ worked_log) (versions worked_origin worked_table (prune_of_replaced ∷ worked_log)) (versions worked_origin worked_table (freeze_of_row ∷ (prune_of_replaced ∷ worked_log))) 0 [] (no_blocks (prune_of_replaced ∷ worked_log) (versions worked_origin worked_table (prune_of_replaced ∷ worked_log)) (versions worked_origin worked_table (freeze_of_row ∷ (prune_of_replaced ∷ worked_log))))
freeze_adds Locks = no_locks worked_origin worked_table (prune_of_replaced ∷ worked_log) freeze_of_row refl refl refl
freeze_adds CheckpointLocks = tt
freeze_adds Multixacts = (tt, tt)
freeze_adds Renews = λ redo h. renews_two (freeze_of_row ∷ (prune_of_replaced ∷ worked_log)) redo h refl refl
freeze_adds Apart = refl
freeze_adds Shutdowns = refl
freeze_adds Transactions = λ legal. (tt, legal)
freeze_adds NewMultixacts = tt
freeze_adds Redone = freeze_redone

pub frozen_keeps : WorkedKeeps worked_log → WorkedKeeps frozen_log
frozen_keeps keeps =
    each_keeps (prune_of_replaced ∷ worked_log) freeze_of_row (each_keeps worked_log prune_of_replaced keeps replaced_adds) freeze_adds
