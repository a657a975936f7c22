-- A running record that lists the transaction which holds the lock keeps each clause.
use Rattle.std.proofs.Common.{◌≡◌, ℕ, ◌<◌, ◌≤◌, true, false, [], ◌∷◌, is_ok, arith, refl}
use Rattle.std.proofs.lemmas.Bool.{both_ways, le-ltb, lt-ltb, or_from, or_left}
use Rattle.pg_types.specs.Numbers.{number_at}
use Rattle.heap_tuple.specs.Tuple.{is_lock_only, is_tuple, is_tuple_head, max_of}
use Rattle.heap_page.specs.Item.{with_item}
use Rattle.heap_page.specs.Put.{put_answer, set_head_answer}
use Rattle.heap_redo.specs.Redone.{grown, redone, redone_record, redone_at, redone_block, view_with, with_seen}
use Rattle.heap_redo.specs.After.{after, after_change, change_head, changed, changed_page, joined, put, put_listed, put_version, tuple_of, update, update_old, update_within}
use Rattle.heap_redo.specs.TupleHeads.{deleted, head_bytes, head_of, locked, marked_mask, marked_mask2, replaced}
use Rattle.transaction_model.specs.Transactions.{ended, named}
use Rattle.transaction_model.specs.LegalTransactions.{Legal, IsNext, IsSpanned, RunningRule, greatest_next}
use Rattle.std.specs.Prelude.{nat_lt}
use Rattle.known_assigned.specs.declared.state.RunningHead.{RunningHead}
use Rattle.known_assigned.specs.Ids.{is_among}
use Rattle.transaction_model.proofs.NoIds.{among_one, one_among}
use Rattle.xact_redo.specs.TransactionsOf.{transaction_of, transactions_of}
use Rattle.row_model.specs.Versions.{changed_at, version_at, with_step, with_steps}
use Rattle.row_model.specs.Locks.{locks, since, up_to_running}
use Rattle.row_model.specs.RowSteps.{births, births_written, block_count, count_with, deleter_of_mark, own_steps, steps_in, update_steps, version_put, version_written, versions, view_after, view_with_record, whole_steps}
use Rattle.row_model.specs.LegalRows.{are_apart, renews_first}
use Rattle.row_model.specs.WorkedRows.{worked_ids, worked_log, worked_origin, worked_table}
use Rattle.row_model.proofs.WorkedLog.{no_locks}
use Rattle.worked_logs.specs.Clauses.{Clause, Births, Deleters, Removals, Cut, Blocks, Locks, CheckpointLocks, Multixacts, Renews, Apart, Shutdowns, Transactions, NewMultixacts, Redone}
use Rattle.worked_logs.specs.BrokenLogs.{locked_log, running_702, running_log}
use Rattle.worked_logs.proofs.OneMore.{Adds, WorkedKeeps, each_keeps, no_blocks, renews_two}
use Rattle.worked_logs.proofs.NextId.{at_most, not_ended, seen_in_worked}

-- the ids that are seen
seen_in_locked : (x : ℕ) → named x (transactions_of locked_log) ≡ true → x < 703
unfolding named transaction_of
seen_in_locked x h =
    at_most 702 703 x (named x (transactions_of worked_log)) (omega arith) (λ l. let low = seen_in_worked x l in omega arith) h

pub locked_next : IsNext worked_ids.at 703 (transactions_of locked_log)
unfolding ended greatest_next transaction_of
locked_next =
    record {
      normal = omega arith;
      above_seen = seen_in_locked;
      not_below = omega arith;
      none_ended = λ x high. not_ended x (omega arith);
    }

-- 702 runs, the next id is 703
abbrev head_702 : RunningHead
head_702 = record { overflow = false; tops = 1; next = record { 0 = 703 }; oldest = record { 0 = 702 }; latest = record { 0 = 701 } }

spans_one : (x : ℕ) → IsSpanned head_702 x → is_among x (702 ∷ []) ≡ true
spans_one x span =
    let from = span.from_oldest in
    let below = span.below_next in one_among x 702 (omega arith)

some_top : (n : ℕ) → 1 ≤ n → n ≡ 0 → ⊥
some_top n some none = omega arith

still_runs : (x : ℕ) → 702 ≤ x → ended worked_ids.at x (transactions_of running_log) ≡ false
unfolding ended transaction_of
still_runs x high = or_from (nat_lt x 702) _ (le-ltb x 702 high) (not_ended x high)

running_rule : RunningRule worked_ids head_702 (702 ∷ []) (transactions_of running_log)
unfolding named ended greatest_next transaction_of
running_rule =
    record {
      is_next =
          record {
            normal = omega arith;
            above_seen = λ x h. at_most 0 703 x _ (omega arith) (seen_in_locked x) h;
            not_below = omega arith;
            none_ended = λ x high. still_runs x (omega arith);
          };
      tops = λ x span live top. spans_one x span;
      subs = λ x span live whole. spans_one x span;
      no_tops = λ x none h live. absurd (some_top 1 (omega arith) none);
      spanned = λ x h.
          let e = among_one x 702 h in record { from_oldest = omega (arith, e); below_next = omega (arith, e) };
      normal = λ x h. let e = among_one x 702 h in omega (arith, e);
      listed = λ x h e.
          let one = among_one x 702 h in
          absurd (both_ways (ended worked_ids.at x (transactions_of running_log)) (still_runs x (omega (arith, one))) e);
      subs_end = λ x low. or_left (nat_lt x 702) _ (lt-ltb x 702 low);
      latest = refl;
      after_latest = λ x whole above below e. one_among x 702 (omega arith);
    }

running_redone : is_ok (view_after worked_origin (worked_table ∷ []) (running_702 ∷ locked_log)) ≡ true
unfolding view_after view_with_record redone_record redone redone_at redone_block after after_change changed_page changed put_listed put tuple_of head_bytes view_with with_seen grown put_answer set_head_answer change_head update update_within update_old put_version joined is_tuple is_tuple_head with_item number_at head_of marked_mask marked_mask2 replaced deleted locked is_lock_only
running_redone = refl

running_adds : (clause : Clause) → Adds clause locked_log running_702
unfolding versions block_count steps_in count_with own_steps births births_written whole_steps tuple_of head_bytes with_steps with_step version_at max_of is_lock_only number_at update_steps version_put version_written deleter_of_mark joined marked_mask changed_at renews_first since are_apart up_to_running locks transaction_of Legal
running_adds Births = tt
running_adds Deleters = tt
running_adds Removals = tt
running_adds Cut = tt
running_adds Blocks = no_blocks locked_log (versions worked_origin worked_table locked_log) (versions worked_origin worked_table (running_702 ∷ locked_log))
running_adds Locks = no_locks worked_origin worked_table locked_log running_702 refl refl refl
running_adds CheckpointLocks = tt
running_adds Multixacts = tt
running_adds Renews = λ redo h. renews_two (running_702 ∷ locked_log) redo h refl refl
running_adds Apart = refl
running_adds Shutdowns = refl
running_adds Transactions = λ legal. (running_rule, legal)
running_adds NewMultixacts = tt
running_adds Redone = running_redone

pub running_keeps : WorkedKeeps locked_log → WorkedKeeps (running_702 ∷ locked_log)
running_keeps keeps = each_keeps locked_log running_702 keeps running_adds
