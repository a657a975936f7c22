-- Each part of the rules on checkpoints is broken alone.
use Rattle.std.proofs.Common.{◌≡◌, ℕ, ◌<◌, ◌≤◌, true, false, ◌==◌, ◌||◌, nat_lt, [], arith, refl, subst, inl, inr}
use Rattle.std.proofs.lemmas.Bool.{false≢true, le-ltb, lt-ltb, or_from, or_left}
use Rattle.transaction_model.specs.Transactions.{ended, named}
use Rattle.transaction_model.specs.LegalTransactions.{SubsEnd, before, greatest_next, last_redo, starts_at}
use Rattle.worked_logs.specs.SecondLog.{second_ids}
use Rattle.worked_logs.specs.CheckpointRules.{CheckpointRulesBreak, IsNextAt, NoOnline, OnlineParts, ShutdownParts, online, shut}
use Rattle.worked_logs.proofs.NextId.{at_most}
use Rattle.transaction_model.proofs.NoIds.{none_at}
use Rattle.worked_logs.proofs.SecondIds.{top_is}

zero_seen : (m x : ℕ) → 0 < m → ((0 == x) || ((0 == x) || false)) ≡ true → x < m
zero_seen m x some h =
    at_most 0 m x ((0 == x) || false) some (λ l. at_most 0 m x false some (λ none. absurd (false≢true none)) l) h

next_after : (n : ℕ) → 3 ≤ n → IsNextAt n (shut n)
unfolding named ended greatest_next
next_after n normal =
    record {
      normal = normal;
      above_seen = λ x h. zero_seen n x (omega arith) h;
      not_below = omega arith;
      none_ended = λ x high. or_from (nat_lt x n) _ (le-ltb x n high)
          (or_from ((x == 1 || x == 2) || false) false (none_at x (omega arith)) refl);
    }

next_first : IsNextAt 3 []
unfolding named ended greatest_next
next_first =
    record {
      normal = omega arith;
      above_seen = λ x h. absurd (false≢true h);
      not_below = omega arith;
      none_ended = λ x high. or_from ((x == 1 || x == 2) || false) false (none_at x high) refl;
    }

start_next : IsNextAt 3 (before 12 (online 12 3))
unfolding before
start_next = next_after 3 (omega arith)

order_next : IsNextAt 3 (before 4 (online 4 3))
unfolding before
order_next = next_first

no_start : NoOnline 12 3
unfolding starts_at
no_start rule = false≢true rule.is_start

no_order : NoOnline 4 3
unfolding last_redo
no_order rule = let h = rule.not_before in omega arith

no_next : NoOnline 16 2
no_next rule = let h = rule.is_next.normal in omega arith

online_parts : OnlineParts
unfolding last_redo starts_at
online_parts =
    record {
      start = (omega arith, start_next, no_start);
      order = (refl, order_next, no_order);
      next = (refl, omega arith, no_next);
    }

subs_end : SubsEnd second_ids 2 (shut 2)
unfolding ended
subs_end x low =
    elim (top_is x) [
      | inl own ↦ (let t = own.1 in absurd (omega arith))
      | inr t ↦ or_left (nat_lt x 2) _ (lt-ltb x 2 (subst (λ (y : ℕ). y < 2) t low))
    ]

not_left : SubsEnd second_ids 703 (shut 703) → ⊥
unfolding ended
not_left ends = false≢true (ends 703 (omega arith))

shutdown_parts : ShutdownParts
shutdown_parts =
    record {
      next = (subs_end, λ rule. (let h = rule.is_next.normal in omega arith));
      subs = (next_after 703 (omega arith), λ rule. not_left rule.subs_end);
    }

pub checkpoint_rules_break_holds : CheckpointRulesBreak
checkpoint_rules_break_holds = record { online = online_parts; shutdown = shutdown_parts }
