-- The worked log keeps to the rules of transactions.
use Rattle.std.proofs.Common.{◌≡◌, ℕ, ◌<◌, ◌≤◌, true, false, nat_lt, List, [], ◌∷◌, arith, refl, sym, subst}
use Rattle.std.proofs.lemmas.Bool.{false≢true, le-ltb, lt-ltb, or_from, or_left}
use Rattle.transaction_model.specs.Transactions.{TransactionRecord, committed, ended, Live, named}
use Rattle.transaction_model.specs.LegalTransactions.{CommitRule, Legal, OnlineRule, TransactionOriginRule, RunningRule, before, greatest_next, last_redo, starts_at}
use Rattle.transaction_model.proofs.NoIds.{among_one, none_ended_at, nothing_head, nothing_rule, one_among}
use Rattle.xact_redo.specs.TransactionsOf.{transaction_of, transactions_of}
use Rattle.row_model.specs.WorkedRows.{insert_by_700, nothing_runs, online_checkpoint, update_by_701, worked_first, worked_log, worked_ids, worked_start}

none_ended : (x : ℕ) → 3 ≤ x → ended worked_ids.at x [] ≡ false
unfolding ended
none_ended x normal = none_ended_at x normal

worked_rule : TransactionOriginRule worked_ids
unfolding committed
worked_rule =
    record {
      top_of_top = λ x. refl;
      top_first = λ x. omega arith;
      top_live = λ x l. l;
      top_committed = λ x normal h. h;
      zero_not_committed = refl;
    }

abbrev at_running : List TransactionRecord
at_running = transactions_of (nothing_runs ∷ [])

not_ended_at_running : (x : ℕ) → 700 ≤ x → ended worked_ids.at x at_running ≡ false
unfolding ended transaction_of
not_ended_at_running x high =
    or_from (nat_lt x 700) (ended worked_ids.at x []) (le-ltb x 700 high) (none_ended x (omega arith))

ended_at_running : (x : ℕ) → x < 700 → ended worked_ids.at x at_running ≡ true
unfolding ended transaction_of
ended_at_running x low = or_left (nat_lt x 700) (ended worked_ids.at x []) (lt-ltb x 700 low)

running_rule : RunningRule worked_ids (nothing_head 700 699) [] at_running
unfolding named greatest_next transaction_of
running_rule =
    nothing_rule worked_ids 700 699 at_running (omega arith)
    (record {
      normal = omega arith;
      above_seen = λ x h. let e = among_one x 0 h in omega arith;
      not_below = omega arith;
      none_ended = not_ended_at_running;
    })
    ended_at_running (ended_at_running 699 (omega arith))

-- at the checkpoint's redo nothing had been written
online_rule : OnlineRule worked_ids 0x2000028 700 at_running (transactions_of (online_checkpoint ∷ nothing_runs ∷ []))
unfolding before greatest_next last_redo named starts_at transaction_of
online_rule =
    record {
      is_start = refl;
      not_before = omega arith;
      is_next =
          record {
            normal = omega arith;
            above_seen = λ x h. absurd (false≢true h);
            not_below = omega arith;
            none_ended = λ x h. none_ended x (omega arith);
          };
    }

-- a live transaction without subtransactions may commit
pub commit_rule : (xid : ℕ) (older : List TransactionRecord) → Live worked_ids.at xid older → CommitRule worked_ids xid [] older
commit_rule xid older live =
    record {
      is_top = refl;
      live = λ x h. subst (λ (y : ℕ). Live worked_ids.at y older) (among_one x xid h) live;
      are_subs = λ x h. absurd (false≢true h);
      all = λ _ x l e. one_among x xid (sym e);
    }

-- each of both writes and commits while it is live
pub first_live : Live worked_ids.at 700 (transactions_of worked_start)
unfolding ended transaction_of
first_live = record { normal = omega arith; not_ended = refl }

pub second_live : Live worked_ids.at 701 (transactions_of worked_first)
unfolding ended transaction_of
second_live = record { normal = omega arith; not_ended = refl }

first_live_on : Live worked_ids.at 700 (transactions_of (insert_by_700 ∷ worked_start))
unfolding ended transaction_of
first_live_on = record { normal = omega arith; not_ended = refl }

second_live_on : Live worked_ids.at 701 (transactions_of (update_by_701 ∷ worked_first))
unfolding ended transaction_of
second_live_on = record { normal = omega arith; not_ended = refl }

pub worked_legal : Legal worked_ids (transactions_of worked_log)
unfolding Legal transaction_of
worked_legal = (
  commit_rule 701 (transactions_of (update_by_701 ∷ worked_first)) second_live_on,
  (
    tt,
    (
      commit_rule 700 (transactions_of (insert_by_700 ∷ worked_start)) first_live_on,
      (tt, (tt, (online_rule, (running_rule, worked_rule)))),
    ),
  ),
)
