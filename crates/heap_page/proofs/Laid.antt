-- The page rule as facts on each line.
use Rattle.std.proofs.Common.{◌≡◌, ◌⊎◌, inl, inr, ℕ, ◌+◌, ◌%◌, ◌<◌, ◌≤◌, Bool, true, false, List, IsTrue, refl, sym, arith}
use Rattle.std.specs.List.{range_with_len}
use Rattle.std.proofs.lemmas.Bool.{and_parts, and_from, cases_eq, cases_Bool, both_ways}
use Rattle.std.proofs.lemmas.Bool.Decides.{nat_tests, Decides-below_and}
use Rattle.std.proofs.lemmas.List.FromFn.{length-range_with_len, get_or-map-range_with_len}
use Rattle.std.proofs.lemmas.List.{get_or_past, length-map}
use Rattle.heap_tuple.specs.Tuple.{IsTuple}
use Rattle.heap_page.specs.Item.{unused, item_in}
use Rattle.heap_page.specs.Page.{lower_of, upper_of, special_of, version_of, line_count, pointer_of, offset_in, state_in, length_in, bytes_at, item_of, lines_of, all_below, is_header, is_placed, are_apart, end_of_room, is_laid}

pub record Header (page : List ℕ) : Type 0 where
  pub version : version_of page ≡ 0x2004
  pub special : special_of page ≡ 8192
  pub behind : 24 ≤ lower_of page
  pub order : lower_of page ≤ upper_of page
  pub inside : upper_of page ≤ 8192
  pub step : lower_of page % 4 ≡ 0

pub record Placed (page : List ℕ) (pointer : ℕ) : Type 0 where
  pub multiple : offset_in pointer % 8 ≡ 0
  pub past : upper_of page ≤ offset_in pointer
  pub inside : offset_in pointer + length_in pointer ≤ 8192
  pub tuple : IsTuple (bytes_at page pointer)

abbrev pub PlacedIf : List ℕ → ℕ → Type 0
PlacedIf page pointer = state_in pointer ≡ 1 → Placed page pointer

abbrev pub Apart : ℕ → ℕ → Type 0
Apart a b = state_in a ≡ 1 → state_in b ≡ 1 → (end_of_room a ≤ offset_in b) ⊎ (end_of_room b ≤ offset_in a)

-- each two of the first n lines are apart
abbrev pub PairsApart : List ℕ → ℕ → Type 0
PairsApart page n = (k : ℕ) → k < n → (j : ℕ) → j < k → Apart (pointer_of page j) (pointer_of page k)

pub record Laid (page : List ℕ) : Type 0 where
  pub header : Header page
  pub placed : (k : ℕ) → k < line_count page → PlacedIf page (pointer_of page k)
  pub apart : (k : ℕ) → k < line_count page → (j : ℕ) → j < k → Apart (pointer_of page j) (pointer_of page k)

header-true : (page : List ℕ) → is_header page ≡ true → Header page
unfolding is_header
header-true page h = record {
  version = grind (arith, nat_tests);
  special = grind (arith, nat_tests);
  behind = grind (arith, nat_tests);
  order = grind (arith, nat_tests);
  inside = grind (arith, nat_tests);
  step = grind (arith, nat_tests);
}

true-header : (page : List ℕ) → Header page → is_header page ≡ true
unfolding is_header
true-header page h = grind (arith, nat_tests)

placed-true : (page : List ℕ) (pointer : ℕ) → is_placed page pointer ≡ true → PlacedIf page pointer
unfolding is_placed
placed-true page pointer h normal = record {
  multiple = grind (arith, nat_tests);
  past = grind (arith, nat_tests);
  inside = grind (arith, nat_tests);
  tuple = grind (arith, nat_tests);
}

true-placed : (page : List ℕ) (pointer : ℕ) → PlacedIf page pointer → is_placed page pointer ≡ true
unfolding is_placed
true-placed page pointer h =
    elim (cases_eq (state_in pointer) 1) [
      | inl normal ↦ let p : Placed page pointer = h normal in grind (arith, nat_tests, p.tuple)
      | inr other ↦ grind (arith, nat_tests)
    ]

apart-true : (a b : ℕ) → are_apart a b ≡ true → Apart a b
unfolding are_apart
apart-true a b h first second = grind (arith, nat_tests)

true-apart : (a b : ℕ) → Apart a b → are_apart a b ≡ true
unfolding are_apart
true-apart a b h =
    elim (cases_eq (state_in a) 1) [
      | inl first ↦ elim (cases_eq (state_in b) 1) [
        | inl second ↦ elim (h first second) [ inl before ↦ grind (arith, nat_tests) | inr behind ↦ grind (arith, nat_tests) ]
        | inr other ↦ grind (arith, nat_tests)
      ]
      | inr other ↦ grind (arith, nat_tests)
    ]

all_below-true : (p : ℕ → Bool) (n : ℕ) → all_below p n ≡ true → (k : ℕ) → k < n → p k ≡ true
all_below-true p n h = (Decides-below_and p (λ k. p k ≡ true) (all_below p) (λ k. (λ e. e, λ e. e)) refl (λ _. refl) n).0 h

pub true-all_below : (p : ℕ → Bool) (n : ℕ) → ((k : ℕ) → k < n → p k ≡ true) → all_below p n ≡ true
true-all_below p n h = (Decides-below_and p (λ k. p k ≡ true) (all_below p) (λ k. (λ e. e, λ e. e)) refl (λ _. refl) n).1 h

-- a loop over the numbers below n that stops at one where p fails, and one that comes to the end
pub all_below-false : (p : ℕ → Bool) (n k : ℕ) → k < n → p k ≡ false → false ≡ all_below p n
all_below-false p n k l e =
    elim (cases_Bool (all_below p n)) [
      | inl all ↦ absurd (both_ways (p k) e (all_below-true p n all k l))
      | inr not_all ↦ sym not_all
    ]

pub all_below_all : (p : ℕ → Bool) (n i : ℕ) → n ≤ i → ((k : ℕ) → k < i → p k ≡ true) → true ≡ all_below p n
all_below_all p n i l h = sym (true-all_below p n (λ k b. h k (omega arith)))

pub lines-few : (page : List ℕ) → IsTrue (is_header page) → line_count page ≤ 2042
lines-few page h = let header = header-true page h in omega (arith, header.order, header.inside)

pub lines-placed : (page : List ℕ) (n : ℕ) → all_below (λ k. is_placed page (pointer_of page k)) n ≡ true → (k : ℕ) → k < n → PlacedIf page (pointer_of page k)
lines-placed page n h k b = placed-true page (pointer_of page k) (all_below-true _ n h k b)

pub pairs-true : (page : List ℕ) (n : ℕ) → all_below (λ k. all_below (λ j. are_apart (pointer_of page j) (pointer_of page k)) k) n ≡ true → PairsApart page n
pairs-true page n h k b j l = apart-true _ _ (all_below-true _ k (all_below-true _ n h k b) j l)

pub true-pairs : (page : List ℕ) (n : ℕ) → PairsApart page n → all_below (λ k. all_below (λ j. are_apart (pointer_of page j) (pointer_of page k)) k) n ≡ true
true-pairs page n h = true-all_below _ n (λ k b. true-all_below _ k (λ j l. true-apart _ _ (h k b j l)))

pub laid-true : (page : List ℕ) → IsTrue (is_laid page) → Laid page
unfolding is_laid
laid-true page h =
    let lines = and_parts _ _ h in
    let first = and_parts _ _ lines.0 in
    record {
      header = header-true page first.0;
      placed = λ k b. placed-true page (pointer_of page k) (all_below-true _ _ first.1 k b);
      apart = λ k b j l. apart-true _ _ (all_below-true _ _ (all_below-true _ _ lines.1 k b) j l);
    }

pub true-laid : (page : List ℕ) → Laid page → IsTrue (is_laid page)
unfolding is_laid
true-laid page h =
    and_from _ _
    (and_from _ _ (true-header page h.header)
    (true-all_below _ _ (λ k b. true-placed page (pointer_of page k) (h.placed k b))))
    (true-all_below _ _ (λ k b. true-all_below _ _ (λ j l. true-apart _ _ (h.apart k b j l))))

-- what a line shows
pub item_in-lines : (page : List ℕ) (k : ℕ) → k < line_count page → item_in (lines_of page) k ≡ item_of page (pointer_of page k)
unfolding lines_of
item_in-lines page k h = get_or-map-range_with_len (λ j. item_of page (pointer_of page j)) 0 (line_count page) k k unused h (omega arith)

pub item_in-past : (page : List ℕ) (k : ℕ) → line_count page ≤ k → item_in (lines_of page) k ≡ unused
unfolding lines_of
item_in-past page k h =
    get_or_past _ k unused
    (omega (arith, length-map (range_with_len 0 (line_count page)) (λ j. item_of page (pointer_of page j)), length-range_with_len 0 (line_count page)))
