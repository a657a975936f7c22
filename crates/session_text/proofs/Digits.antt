-- Where the next digit does not fit, the whole number does not.
use Rattle.std.proofs.Common.{◌≡◌, ℕ, ◌+◌, ◌-◌, ◌*◌, ◌^◌, ◌≤◌, ◌<◌, Bool, true, false, nat_lt, List, [], ◌∷◌, Option, Some, None, length, get_or, drop, refl, sym, ap, ◌∙◌, arith, if◌then◌else◌}
use Rattle.std.proofs.lemmas.Option.{none-some}
use Rattle.std.proofs.lemmas.Bool.{ltb-false}
use Rattle.std.proofs.lemmas.List.{at_drop_more}
use Rattle.session_text.specs.Requests.{is_digit, number_after, number_of}
use Rattle.session_text.specs.Digits.{next_value}

abbrev value : Option ℕ → ℕ
value None = 0
value (Some x) = x

same : (n m : ℕ) → Some n ≡ Some m → n ≤ m
same n m is = let e : n ≡ m = ap value is in omega (arith, e)

-- with a digit a number grows, whatever comes behind it
one_more : (digit : Bool) (n next m : ℕ) (read : Option ℕ) → n ≤ next → (read ≡ Some m → next ≤ m) → (if digit then read else None) ≡ Some m → n ≤ m
one_more true n next m read low more is = omega (arith, more is, low)
one_more false n next m read low more is = absurd (none-some m is)

-- a number only grows with further digits
pub grows : (n m : ℕ) (word : List ℕ) → number_after n word ≡ Some m → n ≤ m
grows n m [] is = same n m is
grows n m (c ∷ word) is = one_more (is_digit c) n (n * 10 + (c - 48)) m (number_after (n * 10 + (c - 48)) word) (omega arith) (grows (n * 10 + (c - 48)) m word) is

past : (digit small : Bool) (next m : ℕ) (read : Option ℕ) → (small ≡ false → 2 ^ 64 ≤ next) → (read ≡ Some m → next ≤ m)
    → (if digit then (if small then Some next else None) else None) ≡ None → (if digit then read else None) ≡ Some m → 2 ^ 64 ≤ m
past true true next m read large more none is = absurd (none-some next (sym none))
past true false next m read large more none is = omega (arith, large refl, more is)
past false small next m read large more none is = absurd (none-some m is)

pub too_large : (n m c : ℕ) (word : List ℕ) → next_value n c ≡ None → number_after n (c ∷ word) ≡ Some m → 2 ^ 64 ≤ m
too_large n m c word none is = let next = n * 10 + (c - 48) in
    past (is_digit c) (nat_lt next (2 ^ 64)) next m (number_after next word) (ltb-false next (2 ^ 64)) (grows next m word) none is

started : (word : List ℕ) (n : ℕ) → number_of word ≡ Some n → number_after 0 word ≡ Some n
started [] n is = absurd (none-some n is)
started (c ∷ word) n is = is

-- at a byte that is no further digit, or one too many
pub unfit : (word : List ℕ) (index value n : ℕ) → index < length word → number_after value (drop index word) ≡ number_after 0 word
    → next_value value (get_or word index 0) ≡ None → number_of word ≡ Some n → 2 ^ 64 ≤ n
unfit word index value n inside kept none is = too_large value n (get_or word index 0) (drop (index + 1) word) none
    (sym (at_drop_more (number_after value) word index 0 inside) ∙ (kept ∙ started word n is))
