-- A removal of a tuple whose inserter still runs breaks the clause on removals alone.
use Rattle.std.proofs.Common.{◌≡◌, ◌≢◌, true, false, [], ◌∷◌, is_ok, arith, refl, sym, subst}
use Rattle.std.proofs.lemmas.Bool.{false≢true}
use Rattle.pg_types.specs.Numbers.{number_at}
use Rattle.heap_tuple.specs.Tuple.{is_lock_only, is_tuple, is_tuple_head, max_of}
use Rattle.heap_page.specs.Item.{with_item}
use Rattle.heap_page.specs.Put.{put_answer, set_head_answer, set_line_answer}
use Rattle.heap_redo.specs.Redone.{grown, redone, redone_record, redone_at, redone_block, view_with, with_seen}
use Rattle.heap_redo.specs.After.{after, after_change, change_head, changed, changed_page, joined, put, put_listed, put_version, tuple_of, update, update_old, update_within, prune, redirect_lines, set_line, set_lines}
use Rattle.heap_redo.specs.TupleHeads.{deleted, head_bytes, head_of, locked, marked_mask, marked_mask2, replaced}
use Rattle.transaction_model.specs.Transactions.{Live, ended}
use Rattle.transaction_model.specs.LegalTransactions.{Legal}
use Rattle.heap_tuple.specs.declared.tuple_view.MaxOf.TheVariants.{None as NoDeleter}
use Rattle.xact_redo.specs.TransactionsOf.{transaction_of, transactions_of}
use Rattle.row_model.specs.Versions.{changed_at, version_at, with_step, with_steps, By, Version}
use Rattle.row_model.specs.Origins.{HasFailed}
use Rattle.row_model.specs.Locks.{locks, since, up_to_running}
use Rattle.row_model.specs.RowSteps.{births, births_written, block_count, count_with, deleter_of_mark, own_steps, steps_in, update_steps, version_put, version_written, versions, view_after, view_with_record, whole_steps, removals, removals_written}
use Rattle.row_model.specs.LegalSteps.{MayBeRemoved, NeverCommitted, OwnDeleted, Unmarked, WasDeleted, WasUndone}
use Rattle.row_model.specs.LegalRows.{are_apart, renews_first}
use Rattle.row_model.specs.WorkedRows.{first_tuple, worked_ids, worked_log, worked_origin, worked_table}
use Rattle.row_model.proofs.WorkedLog.{no_locks}
use Rattle.worked_logs.specs.Clauses.{Clause, Births, Deleters, Removals, Cut, Blocks, Locks, CheckpointLocks, Multixacts, Renews, Apart, Shutdowns, Transactions, NewMultixacts, Redone, Keeps}
use Rattle.worked_logs.specs.BrokenLogs.{BreaksOnly, insert_by_702, prune_of_live}
use Rattle.worked_logs.proofs.OneMore.{Adds, WorkedKeeps, bare_rule, block_rule, breaks_only, each_keeps, no_blocks, renews_two}

live_702 : Live worked_ids.at 702 (transactions_of worked_log)
unfolding ended transaction_of
live_702 = record { normal = omega arith; not_ended = refl }

inserted_redone : is_ok (view_after worked_origin (worked_table ∷ []) (insert_by_702 ∷ worked_log)) ≡ true
unfolding view_after view_with_record redone_record redone redone_at redone_block after after_change changed_page changed put_listed put tuple_of head_bytes view_with with_seen grown put_answer set_head_answer change_head update update_within update_old put_version joined is_tuple is_tuple_head with_item number_at head_of marked_mask marked_mask2 replaced deleted locked is_lock_only
inserted_redone = refl

inserted_adds : (clause : Clause) → Adds clause worked_log insert_by_702
unfolding versions block_count steps_in count_with own_steps births births_written whole_steps tuple_of head_bytes with_steps with_step version_at max_of is_lock_only number_at update_steps version_put version_written deleter_of_mark joined marked_mask changed_at renews_first since are_apart up_to_running locks transaction_of Legal
inserted_adds Births = (record { free = refl; live = live_702; inserter = Unmarked refl; unmarked = refl; spent = λ outside. tt }, tt)
inserted_adds Deleters = (tt, tt)
inserted_adds Removals = (tt, tt)
inserted_adds Cut = tt
inserted_adds Blocks = block_rule worked_log (versions worked_origin worked_table worked_log) (versions worked_origin worked_table (insert_by_702 ∷ worked_log))
inserted_adds Locks = no_locks worked_origin worked_table worked_log insert_by_702 refl refl refl
inserted_adds CheckpointLocks = tt
inserted_adds Multixacts = (tt, tt)
inserted_adds Renews = λ redo h. renews_two (insert_by_702 ∷ worked_log) redo h refl refl
inserted_adds Apart = refl
inserted_adds Shutdowns = refl
inserted_adds Transactions = λ legal. (tt, legal)
inserted_adds NewMultixacts = tt
inserted_adds Redone = inserted_redone

pub inserted_keeps : WorkedKeeps worked_log → WorkedKeeps (insert_by_702 ∷ worked_log)
inserted_keeps keeps = each_keeps worked_log insert_by_702 keeps inserted_adds

-- the version at line 3
abbrev third_row : Version
third_row =
    record {
      block = 0;
      line = 3;
      inserter = By 702;
      deleter = NoDeleter;
      frozen = false;
      holds = true;
      tuple = tuple_of 702 0 0 3 first_tuple first_tuple.rest;
    }

no_removal : MayBeRemoved worked_origin (insert_by_702 ∷ worked_log) 702 third_row → ⊥
unfolding ended transaction_of
no_removal (WasUndone e) = cc
no_removal (NeverCommitted x by failed) =
    let same : 702 ≡ x = cc in
    let own : HasFailed worked_origin (insert_by_702 ∷ worked_log) 702 = subst (HasFailed worked_origin (insert_by_702 ∷ worked_log)) (sym same) failed in
    false≢true own.has_ended
no_removal (OwnDeleted x y by e done same) = cc
no_removal (WasDeleted y e done covered) = cc

live_may : Keeps Removals worked_origin worked_table (prune_of_live ∷ insert_by_702 ∷ worked_log) → MayBeRemoved worked_origin (insert_by_702 ∷ worked_log) 702 third_row
unfolding versions block_count steps_in count_with own_steps births births_written whole_steps tuple_of head_bytes with_steps with_step version_at max_of is_lock_only number_at update_steps version_put version_written deleter_of_mark joined marked_mask changed_at removals removals_written
live_may keeps = keeps.0.0

live_redone : is_ok (view_after worked_origin (worked_table ∷ []) (prune_of_live ∷ (insert_by_702 ∷ worked_log))) ≡ true
unfolding view_after view_with_record redone_record redone redone_at redone_block after after_change changed_page changed put_listed put tuple_of head_bytes view_with with_seen grown put_answer set_head_answer change_head update update_within update_old put_version joined is_tuple is_tuple_head with_item number_at head_of marked_mask marked_mask2 replaced deleted locked is_lock_only prune redirect_lines set_lines set_line set_line_answer
live_redone = refl

live_adds : (clause : Clause) → clause ≢ Removals → Adds clause (insert_by_702 ∷ worked_log) prune_of_live
unfolding versions block_count steps_in count_with own_steps births births_written whole_steps tuple_of head_bytes with_steps with_step version_at max_of is_lock_only number_at update_steps version_put version_written deleter_of_mark joined marked_mask changed_at renews_first since are_apart up_to_running locks transaction_of Legal removals removals_written
live_adds Births ne = (tt, tt)
live_adds Deleters ne = (tt, tt)
live_adds Removals ne = absurd (ne refl)
live_adds Cut ne = tt
live_adds Blocks ne = bare_rule (insert_by_702 ∷ worked_log) (versions worked_origin worked_table (insert_by_702 ∷ worked_log)) (versions worked_origin worked_table (prune_of_live ∷ (insert_by_702 ∷ worked_log))) 0 [] (no_blocks (insert_by_702 ∷ worked_log) (versions worked_origin worked_table (insert_by_702 ∷ worked_log)) (versions worked_origin worked_table (prune_of_live ∷ (insert_by_702 ∷ worked_log))))
live_adds Locks ne = no_locks worked_origin worked_table (insert_by_702 ∷ worked_log) prune_of_live refl refl refl
live_adds CheckpointLocks ne = tt
live_adds Multixacts ne = (tt, tt)
live_adds Renews ne = λ redo h. renews_two (prune_of_live ∷ (insert_by_702 ∷ worked_log)) redo h refl refl
live_adds Apart ne = refl
live_adds Shutdowns ne = refl
live_adds Transactions ne = λ legal. (tt, legal)
live_adds NewMultixacts ne = tt
live_adds Redone ne = live_redone

live_breaks : Keeps Removals worked_origin worked_table (prune_of_live ∷ insert_by_702 ∷ worked_log) → ⊥
live_breaks keeps = no_removal (live_may keeps)

pub live_only : WorkedKeeps (insert_by_702 ∷ worked_log) → BreaksOnly Removals (prune_of_live ∷ insert_by_702 ∷ worked_log)
live_only keeps = breaks_only Removals (insert_by_702 ∷ worked_log) prune_of_live keeps live_breaks live_adds
