-- A truncation under a lock of another transaction breaks the clause on locks alone.
use Rattle.std.proofs.Common.{◌≡◌, ◌≢◌, ℕ, ◌<◌, true, false, ◌==◌, ◌||◌, [], ◌∷◌, Some, is_ok, arith, refl, inl, inr}
use Rattle.std.proofs.lemmas.Bool.{eqb-true, false≢true, or_cases}
use Rattle.pg_types.specs.Numbers.{number_at}
use Rattle.heap_tuple.specs.Tuple.{is_lock_only, is_tuple, is_tuple_head, max_of}
use Rattle.heap_page.specs.Item.{with_item}
use Rattle.heap_page.specs.Put.{put_answer, set_head_answer}
use Rattle.heap_redo.specs.Redone.{grown, redone, redone_record, redone_at, redone_block, view_with, with_seen}
use Rattle.heap_redo.specs.After.{after, after_change, change_head, changed, changed_page, joined, put, put_listed, put_version, tuple_of, update, update_old, update_within}
use Rattle.heap_redo.specs.TupleHeads.{deleted, head_bytes, head_of, locked, marked_mask, marked_mask2, replaced}
use Rattle.transaction_model.specs.LegalTransactions.{Legal}
use Rattle.std.proofs.lemmas.List.Elements.{All-cons, All-nil}
use Rattle.heap_tuple.specs.declared.tuple_view.MaxOf.TheVariants.{Xid as DeletedBy}
use Rattle.xact_redo.specs.TransactionsOf.{transaction_of}
use Rattle.row_model.specs.Versions.{changed_at, version_at, with_step, with_steps, Version}
use Rattle.row_model.specs.Locks.{UnderLock, locks, since, since_shutdown, up_to_running}
use Rattle.row_model.specs.RowSteps.{births, births_written, block_count, count_with, deleter_of_mark, own_steps, steps_in, update_steps, version_put, version_written, versions, view_after, view_with_record, whole_steps}
use Rattle.row_model.specs.LegalRows.{CutRule, are_apart, renews_first}
use Rattle.row_model.specs.WorkedRows.{first_row, second_row, worked_origin, worked_table}
use Rattle.worked_logs.specs.Clauses.{Clause, Births, Deleters, Removals, Cut, Blocks, Locks, CheckpointLocks, Multixacts, Renews, Apart, Shutdowns, Transactions, NewMultixacts, Redone, Keeps}
use Rattle.worked_logs.specs.BrokenLogs.{BreaksOnly, locked_log, truncate_by_other}
use Rattle.worked_logs.proofs.OneMore.{Adds, WorkedKeeps, breaks_only, no_blocks, renews_two}

one_holder : (x : ℕ) → ((702 == x) || false) ≡ true → x ≡ 703 → ⊥
one_holder x held own =
    elim (or_cases (702 == x) false held) [
      | inl at ↦ let e = eqb-true 702 x at in omega (arith, own, e)
      | inr none ↦ false≢true none
    ]

-- 702 alone holds a lock
not_under : UnderLock worked_origin worked_table locked_log 703 → ⊥
unfolding since_shutdown locks
not_under under = one_holder under.holder under.held under.own

-- a version stands in block 0, if it has its place
abbrev IsLeft : Version → Type 0
IsLeft v = v.holds ≡ true → v.block < 1

abbrev deleted_row : Version
deleted_row = record first_row { deleter = DeletedBy (record { 0 = 701 }) }

other_cut : CutRule (Some 1) (versions worked_origin worked_table (truncate_by_other ∷ locked_log))
unfolding versions block_count steps_in count_with own_steps births births_written whole_steps tuple_of head_bytes with_steps with_step version_at max_of is_lock_only number_at update_steps version_put version_written deleter_of_mark joined marked_mask changed_at
other_cut =
    All-cons IsLeft second_row (deleted_row ∷ []) (λ holds. omega arith)
    (All-cons IsLeft deleted_row [] (λ holds. omega arith) (All-nil IsLeft))

other_redone : is_ok (view_after worked_origin (worked_table ∷ []) (truncate_by_other ∷ locked_log)) ≡ true
unfolding view_after view_with_record redone_record redone redone_at redone_block after after_change changed_page changed put_listed put tuple_of head_bytes view_with with_seen grown put_answer set_head_answer change_head update update_within update_old put_version joined is_tuple is_tuple_head with_item number_at head_of marked_mask marked_mask2 replaced deleted locked is_lock_only
other_redone = refl

other_adds : (clause : Clause) → clause ≢ Locks → Adds clause locked_log truncate_by_other
unfolding versions block_count steps_in count_with own_steps births births_written whole_steps tuple_of head_bytes with_steps with_step version_at max_of is_lock_only number_at update_steps version_put version_written deleter_of_mark joined marked_mask changed_at renews_first since are_apart up_to_running locks transaction_of Legal
other_adds Births ne = tt
other_adds Deleters ne = tt
other_adds Removals ne = tt
other_adds Cut ne = other_cut
other_adds Blocks ne = no_blocks locked_log (versions worked_origin worked_table locked_log) (versions worked_origin worked_table (truncate_by_other ∷ locked_log))
other_adds Locks ne = absurd (ne refl)
other_adds CheckpointLocks ne = tt
other_adds Multixacts ne = tt
other_adds Renews ne = λ redo h. renews_two (truncate_by_other ∷ locked_log) redo h refl refl
other_adds Apart ne = refl
other_adds Shutdowns ne = refl
other_adds Transactions ne = λ legal. (tt, legal)
other_adds NewMultixacts ne = tt
other_adds Redone ne = other_redone

other_breaks : Keeps Locks worked_origin worked_table (truncate_by_other ∷ locked_log) → ⊥
other_breaks keeps = not_under (keeps.0.cut 1 refl)

pub other_only : WorkedKeeps locked_log → BreaksOnly Locks (truncate_by_other ∷ locked_log)
other_only keeps = breaks_only Locks locked_log truncate_by_other keeps other_breaks other_adds
