-- Each part of the rules on commits and aborts is broken alone.
use Rattle.std.proofs.Common.{◌≡◌, ℕ, ◌<◌, true, false, ◌==◌, ◌||◌, [], ◌∷◌, arith, refl, sym, ◌∙◌, subst, inl, inr}
use Rattle.std.proofs.lemmas.Bool.{eq-eqb, eqb-true, false≢true, or_cases, or_left, or_right}
use Rattle.known_assigned.specs.Ids.{is_among}
use Rattle.transaction_model.specs.Transactions.{Live, ended}
use Rattle.worked_logs.specs.SecondLog.{second_ids}
use Rattle.worked_logs.specs.EndRules.{AbortParts, AreAll, AreLive, AreSubs, CommitParts, EndRulesBreak}
use Rattle.transaction_model.proofs.NoIds.{among_one}
use Rattle.worked_logs.proofs.SecondIds.{below_top, top_is}

live_702 : Live second_ids.at 702 []
unfolding ended
live_702 = record { normal = omega arith; not_ended = refl }

live_703 : Live second_ids.at 703 []
unfolding ended
live_703 = record { normal = omega arith; not_ended = refl }

live_704 : Live second_ids.at 704 []
unfolding ended
live_704 = record { normal = omega arith; not_ended = refl }

is_live : (x n : ℕ) → Live second_ids.at n [] → is_among x (n ∷ []) ≡ true → Live second_ids.at x []
is_live x n live h = subst (λ (y : ℕ). Live second_ids.at y []) (among_one x n h) live

no_subs : (xid : ℕ) → AreSubs xid []
no_subs xid x h = absurd (false≢true h)

one_all : AreAll 1 []
one_all top x l e = or_left (1 == x) false (eq-eqb 1 x (sym (below_top 1 x (omega arith) e)))

both_live : AreLive 702 (703 ∷ 704 ∷ [])
both_live x h =
    elim (or_cases (702 == x) ((703 == x) || ((704 == x) || false)) h) [
      | inl own ↦ subst (λ (y : ℕ). Live second_ids.at y []) (eqb-true 702 x own) live_702
      | inr later ↦ elim (or_cases (703 == x) ((704 == x) || false) later) [
        | inl sub ↦ subst (λ (y : ℕ). Live second_ids.at y []) (eqb-true 703 x sub) live_703
        | inr other ↦ is_live x 704 live_704 other
      ]
    ]

both_all : AreAll 702 (703 ∷ 704 ∷ [])
both_all top x l e =
    elim (top_is x) [
      | inl own ↦ or_right (702 == x) ((703 == x) || ((704 == x) || false))
          (or_left (703 == x) ((704 == x) || false) (eq-eqb 703 x (sym own.0)))
      | inr t ↦ or_left (702 == x) ((703 == x) || ((704 == x) || false)) (eq-eqb 702 x (sym (sym t ∙ e)))
    ]

differ : (m n : ℕ) → m < n → m ≡ n → ⊥
differ m n less e = omega arith

-- 1 is never live, 704 is its own top transaction, and 703 is not named
one_dead : Live second_ids.at 1 [] → ⊥
one_dead live = let normal = live.normal in omega arith

other_top : AreSubs 702 (703 ∷ 704 ∷ []) → ⊥
other_top subs = differ 702 704 (omega arith) (sym (subs 704 refl).0)

not_named : AreAll 702 [] → ⊥
not_named all = false≢true (all refl 703 live_703 refl)

commit_parts : CommitParts
commit_parts =
    record {
      top = (
        λ x h. is_live x 703 live_703 h,
        no_subs 703,
        λ top x l e. absurd (differ 702 703 (omega arith) top),
        λ rule. differ 702 703 (omega arith) rule.is_top,
      );
      live = (refl, no_subs 1, one_all, λ rule. one_dead (rule.live 1 refl));
      subs = (refl, both_live, both_all, λ rule. other_top rule.are_subs);
      all = (refl, λ x h. is_live x 702 live_702 h, no_subs 702, λ rule. not_named rule.all);
    }

abort_parts : AbortParts
abort_parts =
    record {
      live = (no_subs 1, one_all, λ rule. one_dead (rule.live 1 refl));
      subs = (both_live, both_all, λ rule. other_top rule.are_subs);
      all = (λ x h. is_live x 702 live_702 h, no_subs 702, λ rule. not_named rule.all);
    }

pub end_rules_break_holds : EndRulesBreak
end_rules_break_holds = record { commits = commit_parts; aborts = abort_parts }
