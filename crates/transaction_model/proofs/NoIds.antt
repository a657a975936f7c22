-- A running record that lists nothing, statuses of which none is kept, and a list of one id.
use Rattle.std.proofs.Common.{◌≡◌, ℕ, ◌+◌, ◌≤◌, true, false, ◌==◌, ◌||◌, List, [], ◌∷◌, arith, refl, inl, inr}
use Rattle.std.proofs.lemmas.Bool.{eq-eqb, eqb-true, false_from_ne_true, false≢true, or_cases, or_from, or_left}
use Rattle.known_assigned.specs.Ids.{is_among}
use Rattle.known_assigned.specs.declared.state.RunningHead.{RunningHead}
use Rattle.transaction_model.specs.Transactions.{TransactionRecord, ended}
use Rattle.transaction_model.specs.LegalTransactions.{IsNext, TransactionOrigin, RunningRule, SubsEnd}

-- a list of one id
pub among_one : (x n : ℕ) → is_among x (n ∷ []) ≡ true → n ≡ x
among_one x n h = elim (or_cases (n == x) false h) [ inl e ↦ eqb-true n x e | inr e ↦ absurd (false≢true e) ]

pub one_among : (x n : ℕ) → n ≡ x → is_among x (n ∷ []) ≡ true
one_among x n e = or_left (n == x) false (eq-eqb n x e)

-- a normal id is none of the two that count as committed
pub none_at : (x : ℕ) → 3 ≤ x → ((x == 1 || x == 2) || false) ≡ false
none_at x normal =
    or_from (x == 1 || x == 2) false
    (or_from (x == 1) (x == 2) (false_from_ne_true (x == 1) (λ e. let f = eqb-true x 1 e in omega arith))
    (false_from_ne_true (x == 2) (λ e. let f = eqb-true x 2 e in omega arith)))
    refl

-- so it has not ended where no status is kept
pub none_ended_at : (x : ℕ) → 3 ≤ x → (((x == 1 || x == 2) || false) || false) ≡ false
none_ended_at x normal = or_from ((x == 1 || x == 2) || false) false (none_at x normal) refl

-- nothing runs: n is the next id and the oldest one, and m the latest that completed
abbrev pub nothing_head : ℕ → ℕ → RunningHead
nothing_head n m =
    record { overflow = false; tops = 0; next = record { 0 = n }; oldest = record { 0 = n }; latest = record { 0 = m } }

-- a running record without ids, by which each id below its next one has ended
pub nothing_rule :
    (o : TransactionOrigin) (n m : ℕ) (now : List TransactionRecord) → n ≤ m + 1 → IsNext o.at n now → SubsEnd o n now
    → ended o.at m now ≡ true → RunningRule o (nothing_head n m) [] now
nothing_rule o n m now last next ends latest =
    record {
      is_next = next;
      tops = λ x span l e.
          let above = span.from_oldest in
          let below = span.below_next in absurd (omega arith);
      subs = λ x span l e.
          let above = span.from_oldest in
          let below = span.below_next in absurd (omega arith);
      no_tops = λ x e h l. absurd (false≢true h);
      spanned = λ x h. absurd (false≢true h);
      normal = λ x h. absurd (false≢true h);
      listed = λ x h e. absurd (false≢true h);
      subs_end = ends;
      latest = latest;
      after_latest = λ x whole above below e. absurd (omega arith);
    }
