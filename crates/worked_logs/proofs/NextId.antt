-- 702 is the next id after the worked log, at a shutdown, in a running record and at a checkpoint.
use Rattle.std.proofs.Common.{◌≡◌, ℕ, ◌<◌, ◌≤◌, Bool, true, false, ◌==◌, ◌||◌, nat_lt, [], ◌∷◌, arith, refl, subst, inl, inr}
use Rattle.std.proofs.lemmas.Bool.{eqb-true, false_from_ne_true, false≢true, le-ltb, lt-ltb, or_cases, or_from, or_left}
use Rattle.known_assigned.specs.Ids.{is_among}
use Rattle.transaction_model.specs.Transactions.{ended, named}
use Rattle.transaction_model.specs.LegalTransactions.{IsNext, OnlineRule, RunningRule, ShutdownRule, before, greatest_next, last_redo, starts_at}
use Rattle.xact_redo.specs.TransactionsOf.{transaction_of, transactions_of}
use Rattle.row_model.specs.WorkedRows.{worked_ids, worked_log}
use Rattle.worked_logs.specs.BrokenLogs.{checkpoint_again, checkpoint_alone, running_again, shutdown_elsewhere}
use Rattle.transaction_model.proofs.NoIds.{among_one, none_ended_at, nothing_head, nothing_rule}

-- an id that is seen is among those of the log
pub at_most : (n m x : ℕ) (b : Bool) → n < m → (b ≡ true → x < m) → ((n == x) || b) ≡ true → x < m
at_most n m x b low rest h =
    elim (or_cases (n == x) b h) [
      | inl e ↦ subst (λ (y : ℕ). y < m) (eqb-true n x e) low
      | inr later ↦ rest later
    ]

below_zero : (x : ℕ) → ((0 == x) || false) ≡ true → x < 702
below_zero x h = at_most 0 702 x false (omega arith) (λ none. absurd (false≢true none)) h

pub below_one : (n m x : ℕ) → n < m → is_among x (n ∷ []) ≡ true → x < m
below_one n m x low h = at_most n m x false low (λ none. absurd (false≢true none)) h

-- what the worked log's records see
abbrev sees_start : ℕ → Bool
sees_start x = (0 == x) || ((0 == x) || ((0 == x) || false))

abbrev sees_first : ℕ → Bool
sees_first x = is_among x (700 ∷ []) || ((700 == x) || sees_start x)

low_start : (x : ℕ) → sees_start x ≡ true → x < 702
low_start x h =
    at_most 0 702 x ((0 == x) || ((0 == x) || false)) (omega arith)
    (λ l. at_most 0 702 x ((0 == x) || false) (omega arith) (below_zero x) l) h

low_first : (x : ℕ) → sees_first x ≡ true → x < 702
low_first x h =
    elim (or_cases (is_among x (700 ∷ [])) ((700 == x) || sees_start x) h) [
      | inl own ↦ below_one 700 702 x (omega arith) own
      | inr later ↦ at_most 700 702 x (sees_start x) (omega arith) (low_start x) later
    ]

low_all : (x : ℕ) → (is_among x (701 ∷ []) || ((701 == x) || sees_first x)) ≡ true → x < 702
low_all x h =
    elim (or_cases (is_among x (701 ∷ [])) ((701 == x) || sees_first x) h) [
      | inl own ↦ below_one 701 702 x (omega arith) own
      | inr later ↦ at_most 701 702 x (sees_first x) (omega arith) (low_first x) later
    ]

pub seen_in_worked : (x : ℕ) → named x (transactions_of worked_log) ≡ true → x < 702
unfolding named transaction_of
seen_in_worked x h = low_all x h

pub not_one : (n x : ℕ) → n < x → is_among x (n ∷ []) ≡ false
not_one n x low = false_from_ne_true (is_among x (n ∷ [])) (λ h. let e = among_one x n h in omega arith)

pub not_ended : (x : ℕ) → 702 ≤ x → ended worked_ids.at x (transactions_of worked_log) ≡ false
unfolding ended transaction_of
not_ended x high =
    or_from (is_among x (701 ∷ [])) _ (not_one 701 x (omega arith))
    (or_from (is_among x (700 ∷ [])) _ (not_one 700 x (omega arith))
    (or_from (nat_lt x 700) _ (le-ltb x 700 (omega arith))
    (none_ended_at x (omega arith))))

is_next : IsNext worked_ids.at 702 (transactions_of worked_log)
unfolding greatest_next transaction_of
is_next = record { normal = omega arith; above_seen = seen_in_worked; not_below = omega arith; none_ended = not_ended }

seen_one_more : (x : ℕ) (b : Bool) → (b ≡ true → x < 702) → ((0 == x) || b) ≡ true → x < 702
seen_one_more x b rest h = at_most 0 702 x b (omega arith) rest h

pub shutdown_rule : ShutdownRule worked_ids 702 (transactions_of (shutdown_elsewhere ∷ worked_log))
unfolding named ended greatest_next transaction_of
shutdown_rule =
    record {
      is_next =
          record {
            normal = omega arith;
            above_seen = λ x h. seen_one_more x _ (seen_in_worked x) h;
            not_below = omega arith;
            none_ended = λ x high. or_from (nat_lt x 702) _ (le-ltb x 702 high) (not_ended x high);
          };
      subs_end = λ x low. or_left (nat_lt x 702) _ (lt-ltb x 702 low);
    }

pub alone_rule : OnlineRule worked_ids 0x20001F0 702 (transactions_of worked_log) (transactions_of (checkpoint_alone ∷ worked_log))
unfolding before last_redo starts_at transaction_of
alone_rule = record { is_start = refl; not_before = omega arith; is_next = is_next }

pub running_rule : RunningRule worked_ids (nothing_head 702 701) [] (transactions_of (running_again ∷ worked_log))
unfolding named ended greatest_next transaction_of
running_rule =
    nothing_rule worked_ids 702 701 (transactions_of (running_again ∷ worked_log)) (omega arith)
    (record {
      normal = omega arith;
      above_seen = λ x h. seen_one_more x _ (seen_in_worked x) h;
      not_below = omega arith;
      none_ended = λ x high. or_from (nat_lt x 702) _ (le-ltb x 702 high) (not_ended x high);
    })
    (λ x low. or_left (nat_lt x 702) _ (lt-ltb x 702 low)) refl

pub online_rule :
    OnlineRule worked_ids 0x20001F0 702 (transactions_of (running_again ∷ worked_log))
    (transactions_of (checkpoint_again ∷ running_again ∷ worked_log))
unfolding before last_redo starts_at transaction_of
online_rule = record { is_start = refl; not_before = omega arith; is_next = is_next }
