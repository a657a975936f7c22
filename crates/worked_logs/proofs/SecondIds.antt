-- The second log keeps to the rules of transactions.
use Rattle.std.proofs.Common.{◌≡◌, ℕ, ◌<◌, ◌≤◌, Bool, true, false, ◌==◌, ◌||◌, nat_lt, List, [], ◌∷◌, arith, refl, sym, ap, ◌∙◌, subst, inl, inr}
use Rattle.std.proofs.lemmas.Bool.{both_ways, eq-eqb, eqb-true, false≢true, le-ltb, lt-ltb, or_cases, or_from, or_left, or_right}
use Rattle.known_assigned.specs.Ids.{is_among}
use Rattle.transaction_model.specs.Transactions.{TransactionRecord, Live, committed, ended, named}
use Rattle.transaction_model.specs.LegalTransactions.{CommitRule, IsNext, Legal, OnlineRule, RunningRule, before, greatest_next, last_redo, starts_at}
use Rattle.xact_redo.specs.TransactionsOf.{transaction_of, transactions_of}
use Rattle.row_model.specs.WorkedRows.{worked_first, worked_ids, worked_log}
use Rattle.std.specs.Prelude.{◌⊎◌, ◌+◌, if◌then◌else◌}
use Rattle.transaction_model.specs.LegalTransactions.{AbortRule, TransactionOriginRule}
use Rattle.known_assigned.specs.declared.state.RunningHead.{RunningHead}
use Rattle.row_model.specs.WorkedRows.{worked_start, insert_by_700, nothing_runs, online_checkpoint}
use Rattle.worked_logs.specs.SecondLog.{delete_by_701, insert_by_702, insert_by_703, running_701, second_aborted, second_checkpoint, second_ids, second_log, second_top}
use Rattle.worked_logs.proofs.NextId.{at_most, below_one, not_one}
use Rattle.transaction_model.proofs.NoIds.{among_one, none_at, nothing_head, nothing_rule}

top_from : (x : ℕ) (b : Bool) → (x == 703) ≡ b → ((x ≡ 703) × ((if b then 702 else x) ≡ 702)) ⊎ ((if b then 702 else x) ≡ x)
top_from x true e = inl (eqb-true x 703 e, refl)
top_from x false e = inr refl

pub top_is : (x : ℕ) → ((x ≡ 703) × (second_top x ≡ 702)) ⊎ (second_top x ≡ x)
top_is x = top_from x (x == 703) refl

origin_rule : TransactionOriginRule second_ids
unfolding committed ended
origin_rule =
    record {
      top_of_top = λ x. elim (top_is x) [ inl own ↦ ap second_top own.1 ∙ sym own.1 | inr t ↦ ap second_top t ];
      top_first = λ x. elim (top_is x) [
        | inl own ↦ (let e = own.0 in let t = own.1 in omega arith)
        | inr t ↦ omega arith
      ];
      top_live = λ x l. elim (top_is x) [
        | inl own ↦ subst (λ (y : ℕ). Live second_ids.at y []) (sym own.1) (record { normal = omega arith; not_ended = refl })
        | inr t ↦ subst (λ (y : ℕ). Live second_ids.at y []) (sym t) l
      ];
      top_committed = λ x normal h. absurd (both_ways ((x == 1 || x == 2) || false) (none_at x normal) h);
      zero_not_committed = refl;
    }

-- no other id has a top transaction below 702
pub below_top : (n x : ℕ) → n < 702 → second_top x ≡ n → x ≡ n
below_top n x low e =
    elim (top_is x) [
      | inl own ↦ (let t = own.1 in absurd (omega arith))
      | inr t ↦ sym t ∙ e
    ]

commit_rule :
    (n : ℕ) (older : List TransactionRecord) → second_top n ≡ n → n < 702 → Live second_ids.at n older
    → CommitRule second_ids n [] older
commit_rule n older top low live =
    record {
      is_top = top;
      live = λ x h. subst (λ (y : ℕ). Live second_ids.at y older) (among_one x n h) live;
      are_subs = λ x h. absurd (false≢true h);
      all = λ _ x l e. or_left (n == x) false (eq-eqb n x (sym (below_top n x low e)));
    }

abort_rule : (older : List TransactionRecord) → Live second_ids.at 701 older → AbortRule second_ids 701 [] older
abort_rule older live =
    record {
      live = λ x h. subst (λ (y : ℕ). Live second_ids.at y older) (among_one x 701 h) live;
      are_subs = λ x h. absurd (false≢true h);
      all = λ _ x l e. or_left (701 == x) false (eq-eqb 701 x (sym (below_top 701 x (omega arith) e)));
    }

both_rule : (older : List TransactionRecord) → Live second_ids.at 702 older → Live second_ids.at 703 older → CommitRule second_ids 702 (703 ∷ []) older
both_rule older top sub =
    record {
      is_top = refl;
      live = λ x h. elim (or_cases (702 == x) ((703 == x) || false) h) [
        | inl own ↦ subst (λ (y : ℕ). Live second_ids.at y older) (eqb-true 702 x own) top
        | inr other ↦ subst (λ (y : ℕ). Live second_ids.at y older) (among_one x 703 other) sub
      ];
      are_subs = λ x h. subst (λ (y : ℕ). (second_top y ≡ 702) × (702 < y)) (among_one x 703 h) (refl, omega arith);
      all = λ _ x l e. elim (top_is x) [
        | inl own ↦ or_right (702 == x) ((703 == x) || false) (or_left (703 == x) false (eq-eqb 703 x (sym own.0)))
        | inr t ↦ or_left (702 == x) ((703 == x) || false) (eq-eqb 702 x (sym (sym t ∙ e)))
      ];
    }

-- a running record without ids, by which each id below its next one has ended
nothing_more :
    (n m : ℕ) (now : List TransactionRecord) → n ≤ 702 → n ≤ m + 1 → IsNext second_ids.at n now
    → ((x : ℕ) → x < n → ended second_ids.at x now ≡ true) → ended second_ids.at m now ≡ true
    → RunningRule second_ids (nothing_head n m) [] now
nothing_more n m now low last next ends latest =
    nothing_rule second_ids n m now last next
    (λ x below. elim (top_is x) [
      | inl own ↦ (let t = own.1 in absurd (omega arith))
      | inr t ↦ ends x (subst (λ (y : ℕ). y < n) t below)
    ])
    latest

abbrev at_running : List TransactionRecord
at_running = transactions_of (nothing_runs ∷ [])

abbrev worked_head : RunningHead
worked_head = nothing_head 700 699

-- the first commit, from the worked log's rules
first_legal :
    RunningRule worked_ids worked_head [] at_running
    → OnlineRule worked_ids 0x2000028 700 at_running (transactions_of (online_checkpoint ∷ nothing_runs ∷ []))
    → Live worked_ids.at 700 (transactions_of (insert_by_700 ∷ worked_start)) → Legal second_ids (transactions_of worked_first)
unfolding Legal transaction_of
first_legal running online live = (
  commit_rule 700 (transactions_of (insert_by_700 ∷ worked_start)) refl (omega arith) live,
  (
    tt,
    (
      tt,
      (
        record { is_start = online.is_start; not_before = online.not_before; is_next = online.is_next },
        (nothing_more 700 699 at_running (omega arith) (omega arith) running.is_next running.subs_end running.latest, origin_rule),
      ),
    ),
  ),
)

worked_first_legal : Legal worked_ids (transactions_of worked_log) → Legal second_ids (transactions_of worked_first)
unfolding Legal transaction_of
worked_first_legal legal = first_legal legal.1.1.1.1.1.1.0 legal.1.1.1.1.1.0 (legal.1.1.0.live 700 refl)

-- 701 is the next id after the first commit
abbrev sees_start : ℕ → Bool
sees_start x = (0 == x) || ((0 == x) || ((0 == x) || false))

zeros_below : (x : ℕ) → sees_start x ≡ true → x < 701
zeros_below x h =
    at_most 0 701 x ((0 == x) || ((0 == x) || false)) (omega arith)
    (λ l. at_most 0 701 x ((0 == x) || false) (omega arith) (λ k. at_most 0 701 x false (omega arith) (λ none. absurd (false≢true none)) k) l) h

first_below : (x : ℕ) → (is_among x (700 ∷ []) || ((700 == x) || sees_start x)) ≡ true → x < 701
first_below x h =
    elim (or_cases (is_among x (700 ∷ [])) ((700 == x) || sees_start x) h) [
      | inl own ↦ below_one 700 701 x (omega arith) own
      | inr later ↦ at_most 700 701 x (sees_start x) (omega arith) (zeros_below x) later
    ]

seen_first : (x : ℕ) → named x (transactions_of worked_first) ≡ true → x < 701
unfolding named transaction_of
seen_first x h = first_below x h

not_ended_first : (x : ℕ) → 701 ≤ x → ended second_ids.at x (transactions_of worked_first) ≡ false
unfolding ended transaction_of
not_ended_first x high =
    or_from (is_among x (700 ∷ [])) _ (not_one 700 x (omega arith))
    (or_from (nat_lt x 700) _ (le-ltb x 700 (omega arith))
    (or_from ((x == 1 || x == 2) || false) false (none_at x (omega arith)) refl))

next_701 : IsNext second_ids.at 701 (transactions_of worked_first)
unfolding greatest_next transaction_of
next_701 = record { normal = omega arith; above_seen = seen_first; not_below = omega arith; none_ended = not_ended_first }

running_next : IsNext second_ids.at 701 (transactions_of (running_701 ∷ worked_first))
unfolding named ended greatest_next transaction_of
running_next =
    record {
      normal = omega arith;
      above_seen = λ x h. at_most 0 701 x _ (omega arith) (seen_first x) h;
      not_below = omega arith;
      none_ended = λ x high. or_from (nat_lt x 701) _ (le-ltb x 701 high) (not_ended_first x high);
    }

running_rule : RunningRule second_ids (nothing_head 701 700) [] (transactions_of (running_701 ∷ worked_first))
unfolding ended transaction_of
running_rule =
    nothing_more 701 700 (transactions_of (running_701 ∷ worked_first)) (omega arith) (omega arith) running_next
    (λ x low. or_left (nat_lt x 701) _ (lt-ltb x 701 low)) refl

checkpoint_rule : OnlineRule second_ids 0x2000178 701 (transactions_of (running_701 ∷ worked_first)) (transactions_of second_checkpoint)
unfolding before last_redo starts_at transaction_of
checkpoint_rule = record { is_start = refl; not_before = omega arith; is_next = next_701 }

pub live_701 : Live second_ids.at 701 (transactions_of second_checkpoint)
unfolding ended transaction_of
live_701 = record { normal = omega arith; not_ended = refl }

live_701_on : Live second_ids.at 701 (transactions_of (delete_by_701 ∷ second_checkpoint))
unfolding ended transaction_of
live_701_on = record { normal = omega arith; not_ended = refl }

pub live_702 : Live second_ids.at 702 (transactions_of second_aborted)
unfolding ended transaction_of
live_702 = record { normal = omega arith; not_ended = refl }

pub live_703 : Live second_ids.at 703 (transactions_of (insert_by_702 ∷ second_aborted))
unfolding ended transaction_of
live_703 = record { normal = omega arith; not_ended = refl }

live_702_on : Live second_ids.at 702 (transactions_of (insert_by_703 ∷ insert_by_702 ∷ second_aborted))
unfolding ended transaction_of
live_702_on = record { normal = omega arith; not_ended = refl }

live_703_on : Live second_ids.at 703 (transactions_of (insert_by_703 ∷ insert_by_702 ∷ second_aborted))
unfolding ended transaction_of
live_703_on = record { normal = omega arith; not_ended = refl }

pub second_legal : Legal worked_ids (transactions_of worked_log) → Legal second_ids (transactions_of second_log)
unfolding Legal transaction_of
second_legal worked = (
  both_rule (transactions_of (insert_by_703 ∷ insert_by_702 ∷ second_aborted)) live_702_on live_703_on,
  (
    tt,
    (
      tt,
      (
        abort_rule (transactions_of (delete_by_701 ∷ second_checkpoint)) live_701_on,
        (tt, (checkpoint_rule, (running_rule, worked_first_legal worked))),
      ),
    ),
  ),
)
