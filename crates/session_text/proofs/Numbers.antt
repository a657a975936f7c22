-- A number that is allowed is asked with, and no other.
use Rattle.std.proofs.Common.{◌≡◌, ℕ, ◌^◌, ◌≤◌, ◌<◌, Bool, true, false, Option, Some, None, nat_le, ◌&&◌, refl, sym, subst, arith, if◌then◌else◌}
use Rattle.std.proofs.lemmas.Bool.{false≢true, leb-true, le-leb}
use Rattle.session_text.specs.Requests.{Request, Unreadable, within}

chosen : (low high : Bool) (r : Request) → low ≡ true → high ≡ true → r ≡ (if low && high then r else Unreadable)
chosen true true r l h = refl
chosen true false r l h = absurd (false≢true h)
chosen false high r l h = absurd (false≢true l)

unchosen : (low high : Bool) (r : Request) → ((low ≡ true) × (high ≡ true) → ⊥) → Unreadable ≡ (if low && high then r else Unreadable)
unchosen true true r out = absurd (out (refl, refl))
unchosen true false r out = refl
unchosen false high r out = refl

pub is_within : (least greatest n : ℕ) (request : ℕ → Request) (number : Option ℕ) → number ≡ Some n → least ≤ n → n ≤ greatest → request n ≡ within least greatest request number
is_within least greatest n request number is low high =
    subst (λ (x : Option ℕ). request n ≡ within least greatest request x) (sym is)
    (chosen (nat_le least n) (nat_le n greatest) (request n) (le-leb least n low) (le-leb n greatest high))

pub is_past : (least greatest n : ℕ) (request : ℕ → Request) (number : Option ℕ) → number ≡ Some n → ((least ≤ n) × (n ≤ greatest) → ⊥) → Unreadable ≡ within least greatest request number
is_past least greatest n request number is out =
    subst (λ (x : Option ℕ). Unreadable ≡ within least greatest request x) (sym is)
    (unchosen (nat_le least n) (nat_le n greatest) (request n) (λ both. out (leb-true least n both.0, leb-true n greatest both.1)))

pub is_none : (least greatest : ℕ) (request : ℕ → Request) (number : Option ℕ) → greatest < 2 ^ 64 → ((n : ℕ) → number ≡ Some n → 2 ^ 64 ≤ n) → Unreadable ≡ within least greatest request number
is_none least greatest request None small past = refl
is_none least greatest request (Some n) small past =
    unchosen (nat_le least n) (nat_le n greatest) (request n) (λ both. omega (arith, past n refl, leb-true n greatest both.1, small))
