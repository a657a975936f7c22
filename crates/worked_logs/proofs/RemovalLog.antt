-- A truncation under a lock keeps each clause, and the whole third log is legal.
use Rattle.std.proofs.Common.{◌≡◌, ◌<◌, true, false, List, [], ◌∷◌, Some, is_ok, arith, refl, sym, ap, ◌∙◌, subst}
use Rattle.std.proofs.lemmas.Bool.{false≢true}
use Rattle.pg_types.specs.Numbers.{number_at}
use Rattle.heap_tuple.specs.Tuple.{is_lock_only, is_tuple, is_tuple_head, max_of}
use Rattle.heap_page.specs.Item.{with_item}
use Rattle.heap_page.specs.Put.{put_answer, set_head_answer, set_line_answer}
use Rattle.heap_redo.specs.Redone.{grown, redone, redone_record, redone_at, redone_block, view_with, with_seen}
use Rattle.heap_redo.specs.After.{after, after_change, change_head, changed, changed_page, joined, put, put_listed, put_version, tuple_of, update, update_old, update_within, freeze, freeze_lines, prune, redirect_line, redirect_lines, set_line, set_lines}
use Rattle.heap_redo.specs.TupleHeads.{deleted, head_bytes, head_of, locked, marked_mask, marked_mask2, replaced}
use Rattle.transaction_model.specs.Transactions.{Live, committed, ended}
use Rattle.transaction_model.specs.LegalTransactions.{Legal}
use Rattle.heap_tuple.specs.declared.tuple_view.MaxOf.TheVariants.{None as NoDeleter, Xid as DeletedBy}
use Rattle.std.specs.Prelude.{filter}
use Rattle.std.specs.List.Sorted.{IsPermutation}
use Rattle.std.proofs.lemmas.List.Elements.{All-cons, All-nil}
use Rattle.std.proofs.lemmas.List.Sorted.{IsPermutation-refl}
use Rattle.xact_redo.specs.TransactionsOf.{transaction_of, transactions_of}
use Rattle.row_model.specs.Versions.{changed_at, version_at, with_step, with_steps, By, Version, deleter_of_plan}
use Rattle.row_model.specs.Origins.{committed_in}
use Rattle.row_model.specs.Multixacts.{multixacts}
use Rattle.row_model.specs.Rows.{IsRows, is_row}
use Rattle.row_model.specs.Locks.{UnderLock, locks, since, since_shutdown, up_to_running}
use Rattle.row_model.specs.RowSteps.{births, births_written, block_count, count_with, deleter_of_mark, own_steps, steps_in, update_steps, version_put, version_written, versions, view_after, view_with_record, whole_steps, freezes_in, frozen_written, removals, removals_written}
use Rattle.row_model.specs.LegalRows.{CutRule, LegalLog, LockRule, are_apart, renews_first}
use Rattle.row_model.specs.WorkedRows.{first_row, first_tuple, worked_ids, worked_log, worked_origin, worked_table}
use Rattle.row_model.proofs.WorkedLog.{no_locks}
use Rattle.worked_logs.specs.Clauses.{Clause, Births, Deleters, Removals, Cut, Blocks, Locks, CheckpointLocks, Multixacts, Renews, Apart, Shutdowns, Transactions, NewMultixacts, Redone}
use Rattle.worked_logs.proofs.OneMore.{Adds, WorkedKeeps, each_keeps, no_blocks, renews_two}
use Rattle.row_model.proofs.WorkedIds.{commit_rule}
use Rattle.worked_logs.specs.RemovalLog.{IsRemovalLog, commit_of_703, frozen_row, lock_by_703, removal_log, truncate_by_703, vacuumed_log}
use Rattle.worked_logs.proofs.Legal.{keeping_is_legal_holds, legal_keeps_holds}
use Rattle.worked_logs.proofs.RemovalBegin.{frozen_keeps}
use Rattle.worked_logs.proofs.RemovalMiddle.{vacuumed_keeps}

lock_redone : is_ok (view_after worked_origin (worked_table ∷ []) (lock_by_703 ∷ vacuumed_log)) ≡ true
unfolding view_after view_with_record redone_record redone redone_at redone_block after after_change changed_page changed put_listed put tuple_of head_bytes view_with with_seen grown put_answer set_head_answer change_head update update_within update_old put_version joined is_tuple is_tuple_head with_item number_at head_of marked_mask marked_mask2 replaced deleted locked is_lock_only prune redirect_lines redirect_line set_lines set_line set_line_answer freeze freeze_lines
lock_redone = refl

lock_adds : (clause : Clause) → Adds clause vacuumed_log lock_by_703
unfolding versions block_count steps_in count_with own_steps births births_written whole_steps tuple_of head_bytes with_steps with_step version_at max_of is_lock_only number_at update_steps version_put version_written deleter_of_mark joined marked_mask changed_at renews_first since are_apart up_to_running locks transaction_of Legal removals removals_written freezes_in frozen_written deleter_of_plan
lock_adds Births = tt
lock_adds Deleters = tt
lock_adds Removals = tt
lock_adds Cut = tt
lock_adds Blocks = no_blocks vacuumed_log (versions worked_origin worked_table vacuumed_log) (versions worked_origin worked_table (lock_by_703 ∷ vacuumed_log))
lock_adds Locks = no_locks worked_origin worked_table vacuumed_log lock_by_703 refl refl refl
lock_adds CheckpointLocks = tt
lock_adds Multixacts = tt
lock_adds Renews = λ redo h. renews_two (lock_by_703 ∷ vacuumed_log) redo h refl refl
lock_adds Apart = refl
lock_adds Shutdowns = refl
lock_adds Transactions = λ legal. (tt, legal)
lock_adds NewMultixacts = tt
lock_adds Redone = lock_redone

live_703 : Live worked_ids.at 703 (transactions_of (lock_by_703 ∷ vacuumed_log))
unfolding ended transaction_of
live_703 = record { normal = omega arith; not_ended = refl }

under_703 : UnderLock worked_origin worked_table (lock_by_703 ∷ vacuumed_log) 703
unfolding since_shutdown locks
under_703 = record { holder = 703; held = refl; live = live_703; own = refl }

truncate_locks : LockRule worked_origin worked_table (lock_by_703 ∷ vacuumed_log) truncate_by_703
truncate_locks = record { cut = λ blocks e. under_703; drop = λ e. absurd (false≢true e); gone = λ e. absurd (false≢true e) }

-- the versions: that of 702 and the one that 701 replaced lost their places
abbrev failed_row : Version
failed_row =
    record {
      block = 1;
      line = 1;
      inserter = By 702;
      deleter = NoDeleter;
      frozen = false;
      holds = false;
      tuple = tuple_of 702 0 1 1 first_tuple first_tuple.rest;
    }

abbrev replaced_row : Version
replaced_row = record first_row { deleter = DeletedBy (record { 0 = 701 }); holds = false }

abbrev last_versions : List Version
last_versions = failed_row ∷ frozen_row ∷ replaced_row ∷ []

versions_are : versions worked_origin worked_table vacuumed_log ≡ last_versions
unfolding versions block_count steps_in count_with own_steps births births_written whole_steps tuple_of head_bytes with_steps with_step version_at max_of is_lock_only number_at update_steps version_put version_written deleter_of_mark joined marked_mask changed_at removals removals_written freezes_in frozen_written deleter_of_plan
versions_are = refl

-- a version of it stands in the block that is left, if it has its place
abbrev IsLeft : Version → Type 0
IsLeft v = v.holds ≡ true → v.block < 1

cut_of_last : CutRule (Some 1) last_versions
cut_of_last =
    All-cons IsLeft failed_row (frozen_row ∷ replaced_row ∷ []) (λ holds. absurd (false≢true holds))
    (All-cons IsLeft frozen_row (replaced_row ∷ []) (λ holds. omega arith)
    (All-cons IsLeft replaced_row [] (λ holds. absurd (false≢true holds)) (All-nil IsLeft)))

truncate_cut : CutRule (Some 1) (versions worked_origin worked_table (truncate_by_703 ∷ lock_by_703 ∷ vacuumed_log))
unfolding versions block_count steps_in count_with own_steps births births_written whole_steps tuple_of head_bytes with_steps with_step version_at max_of is_lock_only number_at update_steps version_put version_written deleter_of_mark joined marked_mask changed_at removals removals_written freezes_in frozen_written deleter_of_plan
truncate_cut = subst (CutRule (Some 1)) (sym versions_are) cut_of_last

truncate_redone : is_ok (view_after worked_origin (worked_table ∷ []) (truncate_by_703 ∷ (lock_by_703 ∷ vacuumed_log))) ≡ true
unfolding view_after view_with_record redone_record redone redone_at redone_block after after_change changed_page changed put_listed put tuple_of head_bytes view_with with_seen grown put_answer set_head_answer change_head update update_within update_old put_version joined is_tuple is_tuple_head with_item number_at head_of marked_mask marked_mask2 replaced deleted locked is_lock_only prune redirect_lines redirect_line set_lines set_line set_line_answer freeze freeze_lines
truncate_redone = refl

truncate_adds : (clause : Clause) → Adds clause (lock_by_703 ∷ vacuumed_log) truncate_by_703
unfolding versions block_count steps_in count_with own_steps births births_written whole_steps tuple_of head_bytes with_steps with_step version_at max_of is_lock_only number_at update_steps version_put version_written deleter_of_mark joined marked_mask changed_at renews_first since are_apart up_to_running locks transaction_of Legal removals removals_written freezes_in frozen_written deleter_of_plan
truncate_adds Births = tt
truncate_adds Deleters = tt
truncate_adds Removals = tt
truncate_adds Cut = truncate_cut
truncate_adds Blocks = no_blocks (lock_by_703 ∷ vacuumed_log) (versions worked_origin worked_table (lock_by_703 ∷ vacuumed_log)) (versions worked_origin worked_table (truncate_by_703 ∷ (lock_by_703 ∷ vacuumed_log)))
truncate_adds Locks = truncate_locks
truncate_adds CheckpointLocks = tt
truncate_adds Multixacts = tt
truncate_adds Renews = λ redo h. renews_two (truncate_by_703 ∷ (lock_by_703 ∷ vacuumed_log)) redo h refl refl
truncate_adds Apart = refl
truncate_adds Shutdowns = refl
truncate_adds Transactions = λ legal. (tt, legal)
truncate_adds NewMultixacts = tt
truncate_adds Redone = truncate_redone

runs_on : Live worked_ids.at 703 (transactions_of (truncate_by_703 ∷ lock_by_703 ∷ vacuumed_log))
unfolding ended transaction_of
runs_on = record { normal = omega arith; not_ended = refl }

commit_redone : is_ok (view_after worked_origin (worked_table ∷ []) (commit_of_703 ∷ (truncate_by_703 ∷ lock_by_703 ∷ vacuumed_log))) ≡ true
unfolding view_after view_with_record redone_record redone redone_at redone_block after after_change changed_page changed put_listed put tuple_of head_bytes view_with with_seen grown put_answer set_head_answer change_head update update_within update_old put_version joined is_tuple is_tuple_head with_item number_at head_of marked_mask marked_mask2 replaced deleted locked is_lock_only prune redirect_lines redirect_line set_lines set_line set_line_answer freeze freeze_lines
commit_redone = refl

commit_adds : (clause : Clause) → Adds clause (truncate_by_703 ∷ lock_by_703 ∷ vacuumed_log) commit_of_703
unfolding versions block_count steps_in count_with own_steps births births_written whole_steps tuple_of head_bytes with_steps with_step version_at max_of is_lock_only number_at update_steps version_put version_written deleter_of_mark joined marked_mask changed_at renews_first since are_apart up_to_running locks transaction_of Legal removals removals_written freezes_in frozen_written deleter_of_plan
commit_adds Births = tt
commit_adds Deleters = tt
commit_adds Removals = tt
commit_adds Cut = tt
commit_adds Blocks = no_blocks (truncate_by_703 ∷ lock_by_703 ∷ vacuumed_log) (versions worked_origin worked_table (truncate_by_703 ∷ lock_by_703 ∷ vacuumed_log)) (versions worked_origin worked_table (commit_of_703 ∷ (truncate_by_703 ∷ lock_by_703 ∷ vacuumed_log)))
commit_adds Locks = no_locks worked_origin worked_table (truncate_by_703 ∷ lock_by_703 ∷ vacuumed_log) commit_of_703 refl refl refl
commit_adds CheckpointLocks = tt
commit_adds Multixacts = tt
commit_adds Renews = λ redo h. renews_two (commit_of_703 ∷ (truncate_by_703 ∷ lock_by_703 ∷ vacuumed_log)) redo h refl refl
commit_adds Apart = refl
commit_adds Shutdowns = refl
commit_adds Transactions = λ legal. (commit_rule 703 (transactions_of (truncate_by_703 ∷ lock_by_703 ∷ vacuumed_log)) runs_on, legal)
commit_adds NewMultixacts = tt
commit_adds Redone = commit_redone

removal_keeps : WorkedKeeps worked_log → WorkedKeeps removal_log
removal_keeps keeps =
    each_keeps (truncate_by_703 ∷ lock_by_703 ∷ vacuumed_log) commit_of_703
    (each_keeps (lock_by_703 ∷ vacuumed_log) truncate_by_703
    (each_keeps vacuumed_log lock_by_703 (vacuumed_keeps (frozen_keeps keeps)) lock_adds) truncate_adds) commit_adds

all_versions : versions worked_origin worked_table removal_log ≡ last_versions
unfolding versions block_count steps_in count_with own_steps births births_written whole_steps tuple_of head_bytes with_steps with_step version_at max_of is_lock_only number_at update_steps version_put version_written deleter_of_mark joined marked_mask changed_at removals removals_written freezes_in frozen_written deleter_of_plan
all_versions = versions_are

one_stands : filter (is_row (multixacts removal_log) (committed_in worked_origin removal_log)) last_versions ≡ frozen_row ∷ []
unfolding committed transaction_of
one_stands = refl

are_rows :
    IsRows (multixacts removal_log) (committed_in worked_origin removal_log) (versions worked_origin worked_table removal_log)
    (frozen_row ∷ [])
are_rows =
    record {
      same =
          subst (λ (l : List Version). IsPermutation l (frozen_row ∷ []))
          (sym (ap (filter (is_row (multixacts removal_log) (committed_in worked_origin removal_log))) all_versions ∙ one_stands))
          (IsPermutation-refl (frozen_row ∷ []));
      in_order = (tt, tt);
    }

pub removal_log_is : LegalLog worked_origin (worked_table ∷ []) worked_log → IsRemovalLog
unfolding block_count count_with
removal_log_is worked =
    record {
      legal =
          keeping_is_legal_holds worked_origin worked_table removal_log
          (removal_keeps (legal_keeps_holds worked_origin worked_table worked_log worked));
      count = refl;
      rows = are_rows;
    }
