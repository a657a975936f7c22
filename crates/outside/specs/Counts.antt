-- Facts about counts of faults.
use Rattle.std.proofs.Common.{◌≡◌, ℕ, ◌+◌, ◌-◌, ◌^◌, ◌≤◌, inl, inr, refl, arith, ltb, cond, Bool, true, false}
use borrow.Author.Tests.{ltb-true}
use Rattle.outside.specs.Faults.{IsCount, Rose, counted, last_count, next_count}

pub counted_IsCount : (faults : ℕ) → IsCount (counted faults)
counted_IsCount faults = by (ltb faults (2 ^ 62)) refl
  where
    by : (b : Bool) → ltb faults (2 ^ 62) ≡ b → IsCount (cond b faults last_count)
    by true e = inl (ltb-true faults (2 ^ 62) e)
    by false e = inr refl

pub counted_le : (faults : ℕ) → counted faults ≤ last_count
counted_le faults = by (ltb faults (2 ^ 62)) refl
  where
    by : (b : Bool) → ltb faults (2 ^ 62) ≡ b → cond b faults last_count ≤ last_count
    by true e = omega (arith, ltb-true faults (2 ^ 62) e)
    by false e = omega arith

pub next_grows : (count : ℕ) → count ≤ last_count → count ≤ next_count count
next_grows count small = by (ltb count (2 ^ 62 - 1))
  where
    by : (b : Bool) → count ≤ cond b (count + 1) last_count
    by true = omega arith
    by false = small

pub next_rose : (count : ℕ) → Rose count (next_count count)
next_rose count = by (ltb count (2 ^ 62 - 1))
  where
    by : (b : Bool) → Rose count (cond b (count + 1) last_count)
    by true = inl (omega arith)
    by false = inr refl

pub count_le : (count : ℕ) → IsCount count → count ≤ last_count
count_le count is = elim is [ inl below ↦ omega arith | inr last ↦ omega arith ]
