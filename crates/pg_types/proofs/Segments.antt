-- How many segments 2^32 bytes have.
use Rattle.std.proofs.Common.{◌≡◌, ℕ, zero, suc, ◌-◌, ◌*◌, ◌/◌, ◌%◌, ◌^◌, ◌<◌, ◌≤◌, sym, ap, ◌∙◌, arith, inl, inr}
use Rattle.std.proofs.Math.Nat.{mod-lt, div-le_self, mul-div_cancel, div-lt_iff_lt-mul, mul-le-mul_right}
use Rattle.std.proofs.lemmas.Bool.{cases_lt}
use Rattle.pg_types.specs.Names.{IsSegmentSize}
use Rattle.pg_types.specs.SegmentSizes.{IsPowerBetween, segment_power, size_positive, whole_segments}

module _ (size : ℕ) (is : IsSegmentSize size) where
  abbrev is_power : IsPowerBetween 20 31 size
  is_power = segment_power size is

  whole : 2 ^ (32 - is_power.exponent) * size ≡ 2 ^ 32
  whole = whole_segments size is_power 32 (omega arith)

  pub per_is : 2 ^ 32 / size ≡ 2 ^ (32 - is_power.exponent)
  per_is = ap (λ (n : ℕ). n / size) (sym whole) ∙ mul-div_cancel (2 ^ (32 - is_power.exponent)) (size_positive size is)

  pub per_whole : 2 ^ 32 / size * size ≡ 2 ^ 32
  per_whole = ap (λ (n : ℕ). n * size) per_is ∙ whole

  pub per_pos : 0 < 2 ^ 32 / size
  per_pos = by (2 ^ 32 / size) per_whole
    where
      by : (n : ℕ) → n * size ≡ 2 ^ 32 → 0 < n
      by zero e = absurd (omega arith)
      by (suc n) e = omega arith

  pub low_fits : (segment : ℕ) → segment % (2 ^ 32 / size) < 2 ^ 32
  low_fits segment = omega (arith, mod-lt segment per_pos, div-le_self (2 ^ 32) size)

  pub high_fits : (segment : ℕ) → segment * size < 2 ^ 63 → segment / (2 ^ 32 / size) < 2 ^ 32
  high_fits segment below = (div-lt_iff_lt-mul {k = 2 ^ 32 / size} {x = segment} {y = 2 ^ 32} per_pos).1 (elim (cases_lt segment (2 ^ 32 * (2 ^ 32 / size))) [ inl less ↦ less | inr more ↦ absurd (too_many more) ])
    where
      too_many : 2 ^ 32 * (2 ^ 32 / size) ≤ segment → ⊥
      too_many more = omega (arith, mul-le-mul_right size more, per_whole, below)
