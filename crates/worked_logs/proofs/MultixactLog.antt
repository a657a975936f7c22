-- A lock by a multixact that was made keeps each clause, and the whole fourth log is legal.
use Rattle.std.proofs.Common.{◌≡◌, true, List, [], ◌∷◌, Some, filter, is_ok, arith, refl, sym, ap, ◌∙◌, subst}
use Rattle.std.specs.List.Sorted.{IsPermutation}
use Rattle.std.proofs.lemmas.List.Sorted.{IsPermutation-refl}
use Rattle.pg_types.specs.Numbers.{number_at}
use Rattle.typed_records.specs.declared.types.Rec.{Rec}
use Rattle.heap_tuple.specs.Tuple.{is_lock_only, is_tuple, is_tuple_head, max_of}
use Rattle.heap_page.specs.Item.{with_item}
use Rattle.heap_page.specs.Put.{put_answer, set_head_answer}
use Rattle.heap_redo.specs.Redone.{grown, redone, redone_record, redone_at, redone_block, view_with, with_seen}
use Rattle.heap_redo.specs.After.{after, after_change, change_head, changed, changed_page, joined, put, put_listed, put_version, tuple_of, update, update_old, update_within}
use Rattle.heap_redo.specs.TupleHeads.{deleted, head_bytes, head_of, locked, marked_mask, marked_mask2, replaced}
use Rattle.transaction_model.specs.Transactions.{Live, committed, ended}
use Rattle.transaction_model.specs.LegalTransactions.{Legal}
use Rattle.xact_redo.specs.TransactionsOf.{transaction_of, transactions_of}
use Rattle.multixact.specs.Made.{updater_among}
use Rattle.row_model.specs.Versions.{Version, changed_at, version_at, with_step, with_steps}
use Rattle.row_model.specs.Origins.{committed_in}
use Rattle.row_model.specs.Multixacts.{multixacts}
use Rattle.row_model.specs.Rows.{IsInPlaceOrder, is_row}
use Rattle.row_model.specs.Prefixes.{PrefixIsLegal}
use Rattle.row_model.specs.Locks.{locks, since, up_to_running}
use Rattle.row_model.specs.RowSteps.{births, births_written, block_count, count_with, deleter_of_mark, own_steps, steps_in, update_steps, version_put, version_written, versions, view_after, view_with_record, whole_steps}
use Rattle.row_model.specs.LegalSteps.{Stays}
use Rattle.row_model.specs.LegalRows.{LegalLog, are_apart, renews_first}
use Rattle.row_model.specs.WorkedRows.{AreRowsAfter, commit_of_701, second_row, worked_ids, worked_log, worked_origin, worked_table}
use Rattle.row_model.proofs.WorkedIds.{commit_rule}
use Rattle.row_model.proofs.WorkedLog.{no_locks}
use Rattle.worked_logs.specs.Clauses.{Clause, Births, Deleters, Removals, Cut, Blocks, Locks, CheckpointLocks, Multixacts, Renews, Apart, Shutdowns, Transactions, NewMultixacts, Redone}
use Rattle.worked_logs.specs.MultixactLog.{IsMultixactLog, commit_of_locker, commit_of_updater, lock_by_both, multixact_log, multixact_of_both, shared_log, shared_row, updated_log}
use Rattle.worked_logs.proofs.Legal.{keeping_is_legal_holds, legal_keeps_holds}
use Rattle.worked_logs.proofs.OneMore.{Adds, WorkedKeeps, bare_rule, each_keeps, no_blocks, renews_two}

made_redone : is_ok (view_after worked_origin (worked_table ∷ []) (multixact_of_both ∷ updated_log)) ≡ true
unfolding view_after view_with_record redone_record redone redone_at redone_block after after_change changed_page changed put_listed put tuple_of head_bytes view_with with_seen grown put_answer set_head_answer change_head update update_within update_old put_version joined is_tuple is_tuple_head with_item number_at head_of marked_mask marked_mask2 replaced deleted locked is_lock_only
made_redone = refl

made_adds : (clause : Clause) → Adds clause updated_log multixact_of_both
unfolding versions block_count steps_in count_with own_steps births births_written whole_steps tuple_of head_bytes with_steps with_step version_at max_of is_lock_only number_at update_steps version_put version_written deleter_of_mark joined marked_mask changed_at renews_first since are_apart up_to_running locks transaction_of Legal multixacts updater_among
made_adds Births = tt
made_adds Deleters = tt
made_adds Removals = tt
made_adds Cut = tt
made_adds Blocks = no_blocks updated_log (versions worked_origin worked_table updated_log) (versions worked_origin worked_table (multixact_of_both ∷ updated_log))
made_adds Locks = no_locks worked_origin worked_table updated_log multixact_of_both refl refl refl
made_adds CheckpointLocks = tt
made_adds Multixacts = tt
made_adds Renews = λ redo h. renews_two (multixact_of_both ∷ updated_log) redo h refl refl
made_adds Apart = refl
made_adds Shutdowns = refl
made_adds Transactions = λ legal. (tt, legal)
made_adds NewMultixacts = record { id = λ e. absurd (cc); once = refl; updater = omega arith }
made_adds Redone = made_redone

lock_redone : is_ok (view_after worked_origin (worked_table ∷ []) (lock_by_both ∷ multixact_of_both ∷ updated_log)) ≡ true
unfolding view_after view_with_record redone_record redone redone_at redone_block after after_change changed_page changed put_listed put tuple_of head_bytes view_with with_seen grown put_answer set_head_answer change_head update update_within update_old put_version joined is_tuple is_tuple_head with_item number_at head_of marked_mask marked_mask2 replaced deleted locked is_lock_only
lock_redone = refl

lock_adds : (clause : Clause) → Adds clause (multixact_of_both ∷ updated_log) lock_by_both
unfolding versions block_count steps_in count_with own_steps births births_written whole_steps tuple_of head_bytes with_steps with_step version_at max_of is_lock_only number_at update_steps version_put version_written deleter_of_mark joined marked_mask changed_at renews_first since are_apart up_to_running locks transaction_of Legal multixacts updater_among
lock_adds Births = (tt, tt)
lock_adds Deleters = (Stays refl, tt)
lock_adds Removals = (tt, tt)
lock_adds Cut = tt
lock_adds Blocks = bare_rule (multixact_of_both ∷ updated_log) (versions worked_origin worked_table (multixact_of_both ∷ updated_log)) (versions worked_origin worked_table (lock_by_both ∷ multixact_of_both ∷ updated_log)) 0 [] (no_blocks (multixact_of_both ∷ updated_log) (versions worked_origin worked_table (multixact_of_both ∷ updated_log)) (versions worked_origin worked_table (lock_by_both ∷ multixact_of_both ∷ updated_log)))
lock_adds Locks = no_locks worked_origin worked_table (multixact_of_both ∷ updated_log) lock_by_both refl refl refl
lock_adds CheckpointLocks = tt
lock_adds Multixacts = ((Some (record { 0 = 701 }), refl), tt)
lock_adds Renews = λ redo h. renews_two (lock_by_both ∷ multixact_of_both ∷ updated_log) redo h refl refl
lock_adds Apart = refl
lock_adds Shutdowns = refl
lock_adds Transactions = λ legal. (tt, legal)
lock_adds NewMultixacts = tt
lock_adds Redone = lock_redone

-- each member commits while it is live
updater_runs : Live worked_ids.at 701 (transactions_of shared_log)
unfolding ended transaction_of
updater_runs = record { normal = omega arith; not_ended = refl }

locker_runs : Live worked_ids.at 702 (transactions_of (commit_of_updater ∷ shared_log))
unfolding ended transaction_of
locker_runs = record { normal = omega arith; not_ended = refl }

updater_redone : is_ok (view_after worked_origin (worked_table ∷ []) (commit_of_updater ∷ shared_log)) ≡ true
unfolding view_after view_with_record redone_record redone redone_at redone_block after after_change changed_page changed put_listed put tuple_of head_bytes view_with with_seen grown put_answer set_head_answer change_head update update_within update_old put_version joined is_tuple is_tuple_head with_item number_at head_of marked_mask marked_mask2 replaced deleted locked is_lock_only
updater_redone = refl

updater_adds : (clause : Clause) → Adds clause shared_log commit_of_updater
unfolding versions block_count steps_in count_with own_steps births births_written whole_steps tuple_of head_bytes with_steps with_step version_at max_of is_lock_only number_at update_steps version_put version_written deleter_of_mark joined marked_mask changed_at renews_first since are_apart up_to_running locks transaction_of Legal multixacts updater_among
updater_adds Births = tt
updater_adds Deleters = tt
updater_adds Removals = tt
updater_adds Cut = tt
updater_adds Blocks = no_blocks shared_log (versions worked_origin worked_table shared_log) (versions worked_origin worked_table (commit_of_updater ∷ shared_log))
updater_adds Locks = no_locks worked_origin worked_table shared_log commit_of_updater refl refl refl
updater_adds CheckpointLocks = tt
updater_adds Multixacts = tt
updater_adds Renews = λ redo h. renews_two (commit_of_updater ∷ shared_log) redo h refl refl
updater_adds Apart = refl
updater_adds Shutdowns = refl
updater_adds Transactions = λ legal. (commit_rule 701 (transactions_of shared_log) updater_runs, legal)
updater_adds NewMultixacts = tt
updater_adds Redone = updater_redone

locker_redone : is_ok (view_after worked_origin (worked_table ∷ []) (commit_of_locker ∷ commit_of_updater ∷ shared_log)) ≡ true
unfolding view_after view_with_record redone_record redone redone_at redone_block after after_change changed_page changed put_listed put tuple_of head_bytes view_with with_seen grown put_answer set_head_answer change_head update update_within update_old put_version joined is_tuple is_tuple_head with_item number_at head_of marked_mask marked_mask2 replaced deleted locked is_lock_only
locker_redone = refl

locker_adds : (clause : Clause) → Adds clause (commit_of_updater ∷ shared_log) commit_of_locker
unfolding versions block_count steps_in count_with own_steps births births_written whole_steps tuple_of head_bytes with_steps with_step version_at max_of is_lock_only number_at update_steps version_put version_written deleter_of_mark joined marked_mask changed_at renews_first since are_apart up_to_running locks transaction_of Legal multixacts updater_among
locker_adds Births = tt
locker_adds Deleters = tt
locker_adds Removals = tt
locker_adds Cut = tt
locker_adds Blocks = no_blocks (commit_of_updater ∷ shared_log) (versions worked_origin worked_table (commit_of_updater ∷ shared_log)) (versions worked_origin worked_table (commit_of_locker ∷ commit_of_updater ∷ shared_log))
locker_adds Locks = no_locks worked_origin worked_table (commit_of_updater ∷ shared_log) commit_of_locker refl refl refl
locker_adds CheckpointLocks = tt
locker_adds Multixacts = tt
locker_adds Renews = λ redo h. renews_two (commit_of_locker ∷ commit_of_updater ∷ shared_log) redo h refl refl
locker_adds Apart = refl
locker_adds Shutdowns = refl
locker_adds Transactions = λ legal. (commit_rule 702 (transactions_of (commit_of_updater ∷ shared_log)) locker_runs, legal)
locker_adds NewMultixacts = tt
locker_adds Redone = locker_redone

multixact_keeps : WorkedKeeps updated_log → WorkedKeeps multixact_log
multixact_keeps keeps =
    each_keeps (commit_of_updater ∷ shared_log) commit_of_locker
    (each_keeps shared_log commit_of_updater
    (each_keeps (multixact_of_both ∷ updated_log) lock_by_both (each_keeps updated_log multixact_of_both keeps made_adds) lock_adds)
    updater_adds)
    locker_adds

-- the versions
abbrev both_versions : List Version
both_versions = second_row ∷ shared_row ∷ []

shared_versions : versions worked_origin worked_table shared_log ≡ both_versions
unfolding versions block_count steps_in count_with own_steps births births_written whole_steps tuple_of head_bytes with_steps with_step version_at max_of is_lock_only number_at update_steps version_put version_written deleter_of_mark joined marked_mask changed_at renews_first since are_apart up_to_running locks transaction_of Legal multixacts updater_among
shared_versions = refl

last_versions : versions worked_origin worked_table multixact_log ≡ both_versions
unfolding versions block_count steps_in count_with own_steps births births_written whole_steps tuple_of head_bytes with_steps with_step version_at max_of is_lock_only number_at update_steps version_put version_written deleter_of_mark joined marked_mask changed_at renews_first since are_apart up_to_running locks transaction_of Legal multixacts updater_among
last_versions = refl

shared_stands : version_at 0 1 both_versions ≡ Some shared_row
unfolding version_at
shared_stands = refl

-- the rows among them
are_rows :
    (log : List Rec) (rows : List Version) → versions worked_origin worked_table log ≡ both_versions
    → filter (is_row (multixacts log) (committed_in worked_origin log)) both_versions ≡ rows → IsInPlaceOrder rows
    → AreRowsAfter log rows
are_rows log rows is kept order =
    record {
      same =
          subst (λ (l : List Version). IsPermutation l rows)
          (sym (ap (filter (is_row (multixacts log) (committed_in worked_origin log))) is ∙ kept))
          (IsPermutation-refl rows);
      in_order = order;
    }

old_stands : filter (is_row (multixacts shared_log) (committed_in worked_origin shared_log)) both_versions ≡ shared_row ∷ []
unfolding committed transaction_of multixacts updater_among
old_stands = refl

new_stands : filter (is_row (multixacts multixact_log) (committed_in worked_origin multixact_log)) both_versions ≡ second_row ∷ []
unfolding committed transaction_of multixacts updater_among
new_stands = refl

pub multixact_log_is : PrefixIsLegal → LegalLog worked_origin (worked_table ∷ []) worked_log → IsMultixactLog
multixact_log_is prefix worked =
    record {
      legal =
          keeping_is_legal_holds worked_origin worked_table multixact_log
          (multixact_keeps
          (legal_keeps_holds worked_origin worked_table updated_log
          (prefix worked_origin (worked_table ∷ []) commit_of_701 updated_log worked)));
      shared = ap (version_at 0 1) last_versions ∙ shared_stands;
      before = are_rows shared_log (shared_row ∷ []) shared_versions old_stands (tt, tt);
      rows = are_rows multixact_log (second_row ∷ []) last_versions new_stands (tt, tt);
    }
