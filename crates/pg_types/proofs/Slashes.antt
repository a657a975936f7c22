-- A text that spells a position has one slash, and its halves are what stands around it.
use Rattle.std.proofs.Common.{◌≡◌, ℕ, zero, suc, ◌^◌, ◌<◌, ◌≤◌, inl, inr, List, [], ◌∷◌, length, get_or, take, drop, refl, sym, ap, subst, ◌∙◌, arith, length-append}
use Rattle.std.proofs.Math.Nat.{pow-le-pow_right}
use Rattle.std.proofs.lemmas.Bool.{cases_order}
use Rattle.std.proofs.lemmas.List.{get_or_append_left, get_or_at, take_at, drop_at}
use Rattle.std.specs.Char.{digit_value}
use Rattle.std.specs.Str.Parse.{AllDigits}
use Rattle.pg_types.specs.Names.{SpellsLsn}

-- a slash is no hex digit
no_slash : (ds : List ℕ) (k : ℕ) → AllDigits 16 ds → k < length ds → get_or ds k 0 ≡ 47 → ⊥
no_slash [] k all inside is = omega arith
no_slash (d ∷ ds) zero all inside is = let low : digit_value 47 < 16 = subst (λ (c : ℕ). digit_value c < 16) is all.0 in omega arith
no_slash (d ∷ ds) (suc k) all inside is = no_slash ds k all.1 (omega arith) is

module _ (text : List ℕ) (at : ℕ) (spelled : SpellsLsn text at) where
  -- the slash behind the high half
  slash_there : get_or text (length spelled.high) 0 ≡ 47
  slash_there = ap (λ (xs : List ℕ). get_or xs (length spelled.high) 0) spelled.halves ∙ get_or_at spelled.high 47 spelled.low 0 (length spelled.high) refl

  slash_within : length spelled.high < length text
  slash_within = omega (arith, ap length spelled.halves, length-append spelled.high (47 ∷ spelled.low))

  pub has_slash : ((k : ℕ) → k < length text → get_or text k 0 ≡ 47 → ⊥) → ⊥
  has_slash none = none (length spelled.high) slash_within slash_there

  only_place : (k : ℕ) → get_or text k 0 ≡ 47 → ((j : ℕ) → j < k → get_or text j 0 ≡ 47 → ⊥) → k ≡ length spelled.high
  only_place k is first = elim (cases_order k (length spelled.high)) [
    | inl same ↦ same
    | inr (inl before) ↦ absurd (no_slash spelled.high k spelled.high_hex.2 before (sym (get_or_append_left spelled.high (47 ∷ spelled.low) 0 k before) ∙ (sym (ap (λ (xs : List ℕ). get_or xs k 0) spelled.halves) ∙ is)))
    | inr (inr behind) ↦ absurd (first (length spelled.high) behind slash_there)
  ]

  pub high_is : (k : ℕ) → get_or text k 0 ≡ 47 → ((j : ℕ) → j < k → get_or text j 0 ≡ 47 → ⊥) → take k text ≡ spelled.high
  high_is k is first = ap (take k) spelled.halves ∙ take_at spelled.high (47 ∷ spelled.low) k (sym (only_place k is first))

  pub low_is : (k : ℕ) → get_or text k 0 ≡ 47 → ((j : ℕ) → j < k → get_or text j 0 ≡ 47 → ⊥) → drop 1 (drop k text) ≡ spelled.low
  low_is k is first = ap (drop 1) (ap (drop k) spelled.halves ∙ drop_at spelled.high (47 ∷ spelled.low) k (sym (only_place k is first)))

-- up to eight hex digits write a number of 32 bits, and up to seven of them one of 28
pub hex_small : (count most n : ℕ) → count ≤ most → n < 16 ^ count → n < 16 ^ most
hex_small count most n few small = omega (arith, pow-le-pow_right {n = 16} (omega arith) few, small)
