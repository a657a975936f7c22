-- A truncation without a lock, or a commit that drops the table without one, breaks the clause on locks alone.
use Rattle.std.proofs.Common.{◌≡◌, ◌≢◌, ℕ, ◌<◌, true, [], Some, ◌∷◌, is_ok, arith, refl}
use Rattle.std.proofs.lemmas.Bool.{false≢true}
use Rattle.std.proofs.lemmas.List.Elements.{All-cons, All-nil}
use Rattle.heap_tuple.specs.declared.tuple_view.MaxOf.TheVariants.{Xid as DeletedBy}
use Rattle.pg_types.specs.Numbers.{number_at}
use Rattle.heap_tuple.specs.Tuple.{is_lock_only, is_tuple, is_tuple_head, max_of}
use Rattle.heap_page.specs.Item.{with_item}
use Rattle.heap_page.specs.Put.{put_answer, set_head_answer}
use Rattle.heap_redo.specs.Redone.{grown, redone, redone_record, redone_at, redone_block, view_with, with_seen}
use Rattle.heap_redo.specs.After.{after, after_change, change_head, changed, changed_page, joined, put, put_listed, put_version, tuple_of, update, update_old, update_within}
use Rattle.heap_redo.specs.TupleHeads.{deleted, head_bytes, head_of, locked, marked_mask, marked_mask2, replaced}
use Rattle.transaction_model.specs.Transactions.{Live, ended}
use Rattle.transaction_model.specs.LegalTransactions.{Legal}
use Rattle.xact_redo.specs.TransactionsOf.{transaction_of, transactions_of}
use Rattle.row_model.specs.Versions.{changed_at, version_at, with_step, with_steps, Version}
use Rattle.row_model.specs.Locks.{UnderLock, locks, since, since_shutdown, up_to_running}
use Rattle.row_model.specs.RowSteps.{births, births_written, block_count, count_with, deleter_of_mark, own_steps, steps_in, update_steps, version_put, version_written, versions, view_after, view_with_record, whole_steps}
use Rattle.row_model.specs.LegalRows.{CutRule, are_apart, renews_first}
use Rattle.row_model.specs.WorkedRows.{first_row, second_row, worked_ids, worked_log, worked_origin, worked_table}
use Rattle.row_model.proofs.WorkedIds.{commit_rule}
use Rattle.worked_logs.specs.Clauses.{Clause, Births, Deleters, Removals, Cut, Blocks, Locks, CheckpointLocks, Multixacts, Renews, Apart, Shutdowns, Transactions, NewMultixacts, Redone, Keeps}
use Rattle.worked_logs.specs.BrokenLogs.{BreaksOnly, drop_unlocked, truncate_unlocked}
use Rattle.worked_logs.proofs.OneMore.{Adds, WorkedKeeps, breaks_only, no_blocks, renews_two}

-- no lock is in force
pub no_lock : (x : ℕ) → UnderLock worked_origin worked_table worked_log x → ⊥
unfolding since_shutdown locks
no_lock x under = false≢true under.held

-- each version stands in block 0
cut_below : CutRule (Some 1) (versions worked_origin worked_table (truncate_unlocked ∷ worked_log))
unfolding versions block_count steps_in count_with own_steps births births_written whole_steps tuple_of head_bytes with_steps with_step version_at max_of is_lock_only number_at update_steps version_put version_written deleter_of_mark joined marked_mask changed_at
cut_below =
    All-cons Below second_row (replaced ∷ []) (λ holds. omega arith)
    (All-cons Below replaced [] (λ holds. omega arith) (All-nil Below))
  where
    replaced : Version
    replaced = record first_row { deleter = DeletedBy (record { 0 = 701 }) }

    Below : Version → Type 0
    Below v = v.holds ≡ true → v.block < 1

unlocked_cut_redone : is_ok (view_after worked_origin (worked_table ∷ []) (truncate_unlocked ∷ worked_log)) ≡ true
unfolding view_after view_with_record redone_record redone redone_at redone_block after after_change changed_page changed put_listed put tuple_of head_bytes view_with with_seen grown put_answer set_head_answer change_head update update_within update_old put_version joined is_tuple is_tuple_head with_item number_at head_of marked_mask marked_mask2 replaced deleted locked is_lock_only
unlocked_cut_redone = refl

unlocked_cut_adds : (clause : Clause) → clause ≢ Locks → Adds clause worked_log truncate_unlocked
unfolding versions block_count steps_in count_with own_steps births births_written whole_steps tuple_of head_bytes with_steps with_step version_at max_of is_lock_only number_at update_steps version_put version_written deleter_of_mark joined marked_mask changed_at renews_first since are_apart up_to_running locks transaction_of Legal
unlocked_cut_adds Births ne = tt
unlocked_cut_adds Deleters ne = tt
unlocked_cut_adds Removals ne = tt
unlocked_cut_adds Cut ne = cut_below
unlocked_cut_adds Blocks ne = no_blocks worked_log (versions worked_origin worked_table worked_log) (versions worked_origin worked_table (truncate_unlocked ∷ worked_log))
unlocked_cut_adds Locks ne = absurd (ne refl)
unlocked_cut_adds CheckpointLocks ne = tt
unlocked_cut_adds Multixacts ne = tt
unlocked_cut_adds Renews ne = λ redo h. renews_two (truncate_unlocked ∷ worked_log) redo h refl refl
unlocked_cut_adds Apart ne = refl
unlocked_cut_adds Shutdowns ne = refl
unlocked_cut_adds Transactions ne = λ legal. (tt, legal)
unlocked_cut_adds NewMultixacts ne = tt
unlocked_cut_adds Redone ne = unlocked_cut_redone

unlocked_cut_breaks : Keeps Locks worked_origin worked_table (truncate_unlocked ∷ worked_log) → ⊥
unlocked_cut_breaks keeps = no_lock 702 (keeps.0.cut 1 refl)

pub unlocked_cut_only : WorkedKeeps worked_log → BreaksOnly Locks (truncate_unlocked ∷ worked_log)
unlocked_cut_only keeps = breaks_only Locks worked_log truncate_unlocked keeps unlocked_cut_breaks unlocked_cut_adds

late_live : Live worked_ids.at 702 (transactions_of worked_log)
unfolding ended transaction_of
late_live = record { normal = omega arith; not_ended = refl }

unlocked_drop_redone : is_ok (view_after worked_origin (worked_table ∷ []) (drop_unlocked ∷ worked_log)) ≡ true
unfolding view_after view_with_record redone_record redone redone_at redone_block after after_change changed_page changed put_listed put tuple_of head_bytes view_with with_seen grown put_answer set_head_answer change_head update update_within update_old put_version joined is_tuple is_tuple_head with_item number_at head_of marked_mask marked_mask2 replaced deleted locked is_lock_only
unlocked_drop_redone = refl

unlocked_drop_adds : (clause : Clause) → clause ≢ Locks → Adds clause worked_log drop_unlocked
unfolding versions block_count steps_in count_with own_steps births births_written whole_steps tuple_of head_bytes with_steps with_step version_at max_of is_lock_only number_at update_steps version_put version_written deleter_of_mark joined marked_mask changed_at renews_first since are_apart up_to_running locks transaction_of Legal
unlocked_drop_adds Births ne = tt
unlocked_drop_adds Deleters ne = tt
unlocked_drop_adds Removals ne = tt
unlocked_drop_adds Cut ne = tt
unlocked_drop_adds Blocks ne = no_blocks worked_log (versions worked_origin worked_table worked_log) (versions worked_origin worked_table (drop_unlocked ∷ worked_log))
unlocked_drop_adds Locks ne = absurd (ne refl)
unlocked_drop_adds CheckpointLocks ne = tt
unlocked_drop_adds Multixacts ne = tt
unlocked_drop_adds Renews ne = λ redo h. renews_two (drop_unlocked ∷ worked_log) redo h refl refl
unlocked_drop_adds Apart ne = refl
unlocked_drop_adds Shutdowns ne = refl
unlocked_drop_adds Transactions ne = λ legal. (commit_rule 702 (transactions_of worked_log) late_live, legal)
unlocked_drop_adds NewMultixacts ne = tt
unlocked_drop_adds Redone ne = unlocked_drop_redone

unlocked_drop_breaks : Keeps Locks worked_origin worked_table (drop_unlocked ∷ worked_log) → ⊥
unlocked_drop_breaks keeps = no_lock 702 (keeps.0.drop refl)

pub unlocked_drop_only : WorkedKeeps worked_log → BreaksOnly Locks (drop_unlocked ∷ worked_log)
unlocked_drop_only keeps = breaks_only Locks worked_log drop_unlocked keeps unlocked_drop_breaks unlocked_drop_adds
