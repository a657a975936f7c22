-- What an allowed segment size is: a power of two, with one exponent.
use Rattle.std.proofs.Common.{ℕ, zero, suc, ◌≡◌, ◌==◌, ◌||◌, ◌≤◌, ◌<◌, ◌+◌, ◌-◌, ◌*◌, ◌/◌, ◌%◌, ◌^◌, Bool, true, false, refl, sym, ap, ◌∙◌, arith}
use Rattle.std.proofs.Math.Nat.{mod-lt, div-lt_iff_lt-mul, mul-le-mul_right}
use Rattle.std.proofs.lemmas.Nat.{pow-add, div-add-mod'}
use Rattle.std.specs.List.{list_any, range_with_len}
use Rattle.std.specs.Coded.{Coded-set, coded_bool}
use Rattle.std.proofs.lemmas.Bool.{eqb-true, false≢true}
use Rattle.pg_types.specs.Names.{IsSegmentSize, is_segment_size}

-- an allowed size can be kept beside a value
pub IsSegmentSize-prop : (size : ℕ) → IsProp (IsSegmentSize size)
IsSegmentSize-prop size p q = Coded-set coded_bool _ _ p q

-- the power of two that an allowed size is
pub record IsPowerBetween (low high size : ℕ) : Type 0 where
  pub exponent : ℕ
  pub least : low ≤ exponent
  pub below : exponent < high
  pub power : size ≡ 2 ^ exponent

listed : (size low count : ℕ) → list_any (λ power. size == 2 ^ power) (range_with_len low count) ≡ true → IsPowerBetween low (low + count) size
listed size low zero is = absurd (false≢true is)
listed size low (suc count) is = by (size == 2 ^ low) refl is (λ later. listed size (low + 1) count later)
  where
    by : (b : Bool) → (size == 2 ^ low) ≡ b → (b || list_any (λ power. size == 2 ^ power) (range_with_len (low + 1) count)) ≡ true → (list_any (λ power. size == 2 ^ power) (range_with_len (low + 1) count) ≡ true → IsPowerBetween (low + 1) (low + 1 + count) size) → IsPowerBetween low (low + suc count) size
    by true here any later = record { exponent = low; least = omega arith; below = omega arith; power = eqb-true size (2 ^ low) here }
    by false here any later =
        let found = later any in
        record { exponent = found.exponent; least = omega (arith, found.least); below = omega (arith, found.below); power = found.power }

pub segment_power : (size : ℕ) → IsSegmentSize size → IsPowerBetween 20 31 size
unfolding is_segment_size
segment_power size is = listed size 20 11 is

-- what a power of two at least as great as the size has of it
pub whole_segments : (size : ℕ) (is : IsPowerBetween 20 31 size) (power : ℕ) → 30 ≤ power → 2 ^ (power - is.exponent) * size ≡ 2 ^ power
whole_segments size is power large =
    ap (λ (n : ℕ). 2 ^ (power - is.exponent) * n) is.power
    ∙ (sym (pow-add 2 (power - is.exponent) is.exponent) ∙ ap (λ (k : ℕ). 2 ^ k) {x = power - is.exponent + is.exponent} {y = power} (omega (arith, is.below)))

pub size_positive : (size : ℕ) → IsSegmentSize size → 0 < size
size_positive size is = by size (whole_segments size is_power 30 (omega arith))
  where
    is_power : IsPowerBetween 20 31 size
    is_power = segment_power size is

    by : (n : ℕ) → 2 ^ (30 - is_power.exponent) * n ≡ 2 ^ 30 → 0 < n
    by zero e = absurd (omega arith)
    by (suc n) e = omega arith

-- the segment of a position ends by the end of all positions
pub segment_end : (size at : ℕ) → IsSegmentSize size → at < 2 ^ 63 → at + (size - at % size) ≤ 2 ^ 63
segment_end size at is below =
    let is_power = segment_power size is in
    let positive = size_positive size is in
    let count = 2 ^ (63 - is_power.exponent) in
    let all : count * size ≡ 2 ^ 63 = whole_segments size is_power 63 (omega arith) in
    let inside : at % size < size = mod-lt at positive in
    let split : at / size * size + at % size ≡ at = div-add-mod' at size in
    let fewer : at / size < count = (div-lt_iff_lt-mul {k = size} {x = at} {y = count} positive).1 (omega (arith, all, below)) in
    let more : (at / size + 1) * size ≤ count * size = mul-le-mul_right size (omega (arith, fewer)) in
    omega (arith, more, split, inside, all)

-- the size of a new cluster's segments, the least one and the greatest one
pub sixteen_mebibytes : IsSegmentSize 16777216
unfolding is_segment_size
sixteen_mebibytes = refl

pub one_mebibyte : IsSegmentSize 1048576
unfolding is_segment_size
one_mebibyte = refl

pub one_gibibyte : IsSegmentSize 1073741824
unfolding is_segment_size
one_gibibyte = refl
