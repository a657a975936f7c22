-- Rows in place order: those of a block, and those behind it; and that none stands past a table's end.
use Rattle.std.proofs.Common.{◌≡◌, ℕ, suc, ◌+◌, ◌<◌, ◌≤◌, Bool, true, false, ◌&&◌, ◌==◌, cond, nat_le, List, [], ◌∷◌, ◌++◌, length, All, Option, Some, None, arith, refl, sym, ap, ◌∙◌, inl, inr}
use Rattle.std.specs.List.{filter, sum_by}
use Rattle.std.specs.List.Sorted.{IsPermutation}
use Rattle.std.proofs.lemmas.Bool.{both_ways, cases_order, eq-eqb, le-leb, leb-true, lt-leb, ne_eqb}
use Rattle.std.proofs.lemmas.List.{nil_from_length}
use Rattle.std.proofs.lemmas.List.Elements.{All-head, All-tail}
use Rattle.std.proofs.lemmas.List.Sorted.{sum_by-IsPermutation}
use Rattle.std.proofs.lemmas.List.Sums.{sum_by-cons}
use Rattle.row_model.specs.Versions.{Version, is_at, version_at}
use Rattle.row_model.specs.Rows.{IsBefore, IsBeforeAll, IsInPlaceOrder}
use Rattle.row_model.specs.Shown.{HasNone}
use Rattle.row_pages.specs.Pages.{is_in_block}

-- a version stands in this block or behind it
abbrev pub is_from : ℕ → Version → Bool
is_from block v = nat_le block v.block

-- a filter of a list, by what the test says of its first
filter_first : (p : Version → Bool) (v : Version) (vs : List Version) (t : Bool) → p v ≡ t → filter p (v ∷ vs) ≡ cond t (v ∷ filter p vs) (filter p vs)
filter_first p v vs t e = ap (λ (b : Bool). cond b (v ∷ filter p vs) (filter p vs)) e

-- of rows behind one that stands behind a block none is in the block
none_in : (block : ℕ) (v : Version) (rows : List Version) → block < v.block → IsBeforeAll v rows → filter (is_in_block block) rows ≡ []
none_in block v [] less before = refl
none_in block v (u ∷ rows) less (first, rest) =
    filter_first (is_in_block block) u rows false (ne_eqb u.block block (λ e. not_there first e)) ∙ none_in block v rows less rest
  where
    not_there : IsBefore v u → u.block ≡ block → ⊥
    not_there (inl further) e = omega (arith, less, further, e)
    not_there (inr (same, line)) e = omega (arith, less, same, e)

split_first :
    (block : ℕ) (v : Version) (rows : List Version) → IsBeforeAll v rows
    → filter (is_from block) rows ≡ filter (is_in_block block) rows ++ filter (is_from (block + 1)) rows
    → filter (is_from block) (v ∷ rows) ≡ filter (is_in_block block) (v ∷ rows) ++ filter (is_from (block + 1)) (v ∷ rows)
split_first block v rows before rest =
    elim (cases_order v.block block) [
      | inl e ↦
          filter_first (is_from block) v rows true (le-leb block v.block (omega (arith, e)))
          ∙ ap (λ (us : List Version). v ∷ us) rest
          ∙ sym (both true false (eq-eqb v.block block e) (lt-leb (block + 1) v.block (omega (arith, e))))
      | inr (inl less) ↦
          filter_first (is_from block) v rows false (lt-leb block v.block less)
          ∙ rest
          ∙ sym (both false false (ne_eqb v.block block (λ e. omega (arith, e, less))) (lt-leb (block + 1) v.block (omega (arith, less))))
      | inr (inr more) ↦
          filter_first (is_from block) v rows true (le-leb block v.block (omega (arith, more)))
          ∙ ap (λ (us : List Version). v ∷ us) (rest ∙ ap (λ (us : List Version). us ++ filter (is_from (block + 1)) rows) (none_in block v rows more before))
          ∙ sym (both false true (ne_eqb v.block block (λ e. omega (arith, e, more))) (le-leb (block + 1) v.block (omega (arith, more)))
          ∙ ap (λ (us : List Version). us ++ v ∷ filter (is_from (block + 1)) rows) (none_in block v rows more before))
    ]
  where
    both :
        (s t : Bool) → is_in_block block v ≡ s → is_from (block + 1) v ≡ t
        → filter (is_in_block block) (v ∷ rows) ++ filter (is_from (block + 1)) (v ∷ rows)
        ≡ cond s (v ∷ filter (is_in_block block) rows) (filter (is_in_block block) rows)
        ++ cond t (v ∷ filter (is_from (block + 1)) rows) (filter (is_from (block + 1)) rows)
    both s t e f =
        ap (λ (us : List Version). us ++ filter (is_from (block + 1)) (v ∷ rows)) (filter_first (is_in_block block) v rows s e)
        ∙ ap (λ (us : List Version). cond s (v ∷ filter (is_in_block block) rows) (filter (is_in_block block) rows) ++ us)
        (filter_first (is_from (block + 1)) v rows t f)

pub split_rows :
    (block : ℕ) (rows : List Version) → IsInPlaceOrder rows
    → filter (is_from block) rows ≡ filter (is_in_block block) rows ++ filter (is_from (block + 1)) rows
split_rows block [] order = refl
split_rows block (v ∷ rows) (before, order) = split_first block v rows before (split_rows block rows order)

-- all stand from block 0 on
pub all_from : (rows : List Version) → filter (is_from 0) rows ≡ rows
all_from [] = refl
all_from (v ∷ rows) =
    filter_first (is_from 0) v rows true (le-leb 0 v.block (omega arith)) ∙ ap (λ (us : List Version). v ∷ us) (all_from rows)

-- what stands at no place has lost its own
held_is :
    (v : Version) (place : Option Version) (t : Bool) → v.holds ≡ t
    → cond (t && ((v.block == v.block) && (v.line == v.line))) (Some v) place ≡ None → v.holds ≡ false
held_is v place false h e = h
held_is v place true h e =
    absurd (found (v.block == v.block) (v.line == v.line) (eq-eqb v.block v.block refl) (eq-eqb v.line v.line refl) e)
  where
    found : (a b : Bool) → a ≡ true → b ≡ true → cond (true && (a && b)) (Some v) place ≡ None → ⊥
    found true true p q e = cc
    found false b p q e = cc
    found true false p q e = cc

first_lost : (v : Version) (vs : List Version) → version_at v.block v.line (v ∷ vs) ≡ None → v.holds ≡ false
unfolding version_at
first_lost v vs none = held_is v (version_at v.block v.line vs) v.holds refl none

rest_none : (v : Version) (block line : ℕ) (vs : List Version) → version_at block line (v ∷ vs) ≡ None → version_at block line vs ≡ None
unfolding version_at
rest_none v block line vs none = by (is_at block line v) none
  where
    by : (t : Bool) → cond t (Some v) (version_at block line vs) ≡ None → version_at block line vs ≡ None
    by true e = cc
    by false e = e

module _ (test : Version → Bool) (count block : ℕ) (past : count ≤ block) where
  -- none that passes the test stands past the end
  past_first :
      (v : Version) (vs : List Version) (t s : Bool) → test v ≡ t → is_from block v ≡ s → (t ≡ true → s ≡ true → ⊥)
      → filter (is_from block) (filter test vs) ≡ [] → filter (is_from block) (filter test (v ∷ vs)) ≡ []
  past_first v vs false s e f never rest = ap (filter (is_from block)) (filter_first test v vs false e) ∙ rest
  past_first v vs true false e f never rest =
      ap (filter (is_from block)) (filter_first test v vs true e) ∙ filter_first (is_from block) v (filter test vs) false f ∙ rest
  past_first v vs true true e f never rest = absurd (never refl refl)

  pub none_past :
      (vs : List Version) → ((b : ℕ) → count ≤ b → HasNone vs b) → All (λ (v : Version). v.holds ≡ false → test v ≡ false) vs
      → filter (is_from block) (filter test vs) ≡ []
  none_past [] none lost = refl
  none_past (v ∷ vs) none lost =
      past_first v vs (test v) (is_from block v) refl refl
      (λ passes behind. both_ways (test v)
      (All-head (λ (u : Version). u.holds ≡ false → test u ≡ false) v vs lost
      (first_lost v vs (none v.block (reaches behind) v.line))) passes)
      (none_past vs (λ b further line. rest_none v b line vs (none b further line))
      (All-tail (λ (u : Version). u.holds ≡ false → test u ≡ false) v vs lost))
    where
      reaches : is_from block v ≡ true → count ≤ v.block
      reaches behind = let less = leb-true block v.block behind in omega (arith, less, past)

-- a filter of a permutation leaves as many
abbrev number_of : (Version → Bool) → Version → ℕ
number_of p v = cond (p v) 1 0

one_more : (n : ℕ) → suc n ≡ 1 + n
one_more n = omega arith

none_more : (n : ℕ) → n ≡ 0 + n
none_more n = omega arith

number_first : (p : Version → Bool) (v : Version) (vs : List Version) (t : Bool) → p v ≡ t → length (filter p (v ∷ vs)) ≡ cond t 1 0 + length (filter p vs)
number_first p v vs true e = ap length (filter_first p v vs true e) ∙ one_more (length (filter p vs))
number_first p v vs false e = ap length (filter_first p v vs false e) ∙ none_more (length (filter p vs))

numbers : (p : Version → Bool) (vs : List Version) → sum_by (number_of p) vs ≡ length (filter p vs)
numbers p [] = refl
numbers p (v ∷ vs) =
    sum_by-cons (number_of p) v vs ∙ ap (λ (n : ℕ). number_of p v + n) (numbers p vs) ∙ sym (number_first p v vs (p v) refl)

pub none_among : (p : Version → Bool) (vs rows : List Version) → IsPermutation vs rows → filter p vs ≡ [] → filter p rows ≡ []
none_among p vs rows same none =
    nil_from_length (filter p rows)
    (sym (numbers p rows) ∙ sum_by-IsPermutation (number_of p) vs rows same ∙ numbers p vs ∙ ap length none)
