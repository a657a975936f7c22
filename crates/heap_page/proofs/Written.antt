-- What is read of a page after a write.
use Rattle.std.proofs.Common.{◌≡◌, inl, inr, ℕ, zero, suc, ◌+◌, ◌-◌, ◌^◌, ◌<◌, ◌≤◌, List, ◌++◌, length, take, drop, get_or, refl, sym, ap, ◌∙◌, append_assoc, arith, rules}
use Rattle.std.proofs.lemmas.List.{places, get_or-drop, drop_at, length-take-le, length-append, get_or-take, take_at, get_or_append_left, get_or-append_right}
use Rattle.std.proofs.lemmas.Bool.{cases_lt}
use Rattle.std.proofs.lemmas.Grind.{same_number_lists}
use Rattle.byteorder.specs.Endian.{little_from}
use Rattle.byteorder.specs.Numbers.{length-bytes_low_first, little_number-reads_back}
use Rattle.pg_types.specs.Numbers.{number_at}
use Rattle.heap_page.specs.Write.{number_bytes, written}

-- two pages have the same bytes from a up to b
pub record SameFrom (a b : ℕ) (xs ys : List ℕ) : Type 0 where
  pub each : (i : ℕ) → a ≤ i → i < b → get_or xs i 0 ≡ get_or ys i 0

pub length-written : (page : List ℕ) (at : ℕ) (bytes : List ℕ) → at + length bytes ≤ length page → length (written page at bytes) ≡ length page
unfolding written
length-written page at bytes h = search (rules, places)

pub get_or-written_before : (page : List ℕ) (at : ℕ) (bytes : List ℕ) (i : ℕ) → i < at → at + length bytes ≤ length page → get_or (written page at bytes) i 0 ≡ get_or page i 0
unfolding written
get_or-written_before page at bytes i l h = search (rules, places)

pub get_or-written_in : (page : List ℕ) (at : ℕ) (bytes : List ℕ) (i : ℕ) → at ≤ i → i < at + length bytes → at + length bytes ≤ length page → get_or (written page at bytes) i 0 ≡ get_or bytes (i - at) 0
unfolding written
get_or-written_in page at bytes i l u h = search (rules, places)

pub get_or-written_after : (page : List ℕ) (at : ℕ) (bytes : List ℕ) (i : ℕ) → at + length bytes ≤ i → at + length bytes ≤ length page → get_or (written page at bytes) i 0 ≡ get_or page i 0
unfolding written
get_or-written_after page at bytes i l h = search (rules, places)

-- numbers and parts are the same where the bytes are
little_from-same : (n i : ℕ) (xs ys : List ℕ) → ((k : ℕ) → i ≤ k → k < i + n → get_or xs k 0 ≡ get_or ys k 0) → little_from i n xs ≡ little_from i n ys
little_from-same zero i xs ys h = refl
little_from-same (suc n) i xs ys h =
    let first : get_or xs i 0 ≡ get_or ys i 0 = h i (omega arith) (omega arith) in
    let rest = little_from-same n (suc i) xs ys (λ k a b. h k (omega arith) (omega arith)) in
    cc

little_from-zero : (n i : ℕ) (xs : List ℕ) → ((k : ℕ) → i ≤ k → k < i + n → get_or xs k 0 ≡ 0) → little_from i n xs ≡ 0
little_from-zero zero i xs h = refl
little_from-zero (suc n) i xs h =
    let first : get_or xs i 0 ≡ 0 = h i (omega arith) (omega arith) in
    let rest = little_from-zero n (suc i) xs (λ k a b. h k (omega arith) (omega arith)) in
    omega (arith, first, rest)

pub number_at-zeros : (n at : ℕ) (page : List ℕ) → ((i : ℕ) → at ≤ i → i < at + n → get_or page i 0 ≡ 0) → number_at n page at ≡ 0
unfolding number_at
number_at-zeros n at page h =
    little_from-zero n 0 (drop at page) (λ k a b. get_or-drop at page k 0 ∙ h (at + k) (omega arith) (omega arith))

pub number_at-moved : (n at to : ℕ) (xs ys : List ℕ) → ((i : ℕ) → i < n → get_or xs (at + i) 0 ≡ get_or ys (to + i) 0) → number_at n xs at ≡ number_at n ys to
unfolding number_at
number_at-moved n at to xs ys h =
    little_from-same n 0 (drop at xs) (drop to ys)
    (λ k a b. get_or-drop at xs k 0 ∙ h k (omega arith) ∙ sym (get_or-drop to ys k 0))

pub number_at-same : (n at : ℕ) (xs ys : List ℕ) → SameFrom at (at + n) xs ys → number_at n xs at ≡ number_at n ys at
unfolding number_at
number_at-same n at xs ys h =
    little_from-same n 0 (drop at xs) (drop at ys)
    (λ k a b. get_or-drop at xs k 0 ∙ h.each (at + k) (omega arith) (omega arith) ∙ sym (get_or-drop at ys k 0))

pub part-same : (at n : ℕ) (xs ys : List ℕ) → length xs ≡ length ys → at + n ≤ length ys → SameFrom at (at + n) xs ys → take n (drop at xs) ≡ take n (drop at ys)
part-same at n xs ys e l h =
    same_number_lists _ _ (search (rules, places))
    (λ k b. let inside : k < n = search (rules, places) in
    get_or-take n (drop at xs) k 0 inside ∙ get_or-drop at xs k 0
    ∙ h.each (at + k) (omega arith) (omega arith)
    ∙ sym (get_or-drop at ys k 0) ∙ sym (get_or-take n (drop at ys) k 0 inside))

-- what a write leaves as it was, and what it puts there
pub before-written : (page : List ℕ) (at : ℕ) (bytes : List ℕ) (a b : ℕ) → b ≤ at → at + length bytes ≤ length page → SameFrom a b (written page at bytes) page
before-written page at bytes a b l h = record { each = λ i p q. get_or-written_before page at bytes i (omega arith) h }

pub after-written : (page : List ℕ) (at : ℕ) (bytes : List ℕ) (a b : ℕ) → at + length bytes ≤ a → at + length bytes ≤ length page → SameFrom a b (written page at bytes) page
after-written page at bytes a b l h = record { each = λ i p q. get_or-written_after page at bytes i (omega arith) h }

pub drop-written : (page : List ℕ) (at : ℕ) (bytes : List ℕ) → at + length bytes ≤ length page → drop at (written page at bytes) ≡ bytes ++ drop (at + length bytes) page
unfolding written
drop-written page at bytes h =
    ap (drop at) (append_assoc (take at page) bytes (drop (at + length bytes) page))
    ∙ drop_at (take at page) (bytes ++ drop (at + length bytes) page) at (length-take-le at page (omega arith))

pub part-written : (page : List ℕ) (at : ℕ) (bytes : List ℕ) → at + length bytes ≤ length page → take (length bytes) (drop at (written page at bytes)) ≡ bytes
part-written page at bytes h =
    ap (take (length bytes)) (drop-written page at bytes h) ∙ take_at bytes (drop (at + length bytes) page) (length bytes) refl

pub length-number_bytes : (n x : ℕ) → length (number_bytes n x) ≡ n
unfolding number_bytes
length-number_bytes n x = length-bytes_low_first 0 n x

pub number_at-written : (n x at : ℕ) (page : List ℕ) → x < 256 ^ n → at + n ≤ length page → number_at n (written page at (number_bytes n x)) at ≡ x
unfolding number_at number_bytes
number_at-written n x at page small h =
    ap (little_from 0 n) (drop-written page at (number_bytes n x) (omega (arith, length-number_bytes n x)))
    ∙ little_number-reads_back n x (drop (at + length (number_bytes n x)) page) small

-- a write that is followed by one right behind it
pub written-written : (page : List ℕ) (at next : ℕ) (first rest : List ℕ) → next ≡ at + length first → at + (length first + length rest) ≤ length page → written (written page at first) next rest ≡ written page at (first ++ rest)
written-written page at next first rest e h =
    let once = length-written page at first (omega arith) in
    let both : length (first ++ rest) ≡ length first + length rest = length-append first rest in
    let inner : next + length rest ≤ length (written page at first) = omega arith in
    let outer : at + length (first ++ rest) ≤ length page = omega arith in
    same_number_lists _ _
    (length-written (written page at first) next rest inner ∙ once ∙ sym (length-written page at (first ++ rest) outer))
    (λ k b. elim (cases_lt k at) [
      | inl l ↦
          get_or-written_before (written page at first) next rest k (omega arith) inner
          ∙ get_or-written_before page at first k l (omega arith)
          ∙ sym (get_or-written_before page at (first ++ rest) k l outer)
      | inr g ↦ elim (cases_lt k next) [
        | inl l ↦
            get_or-written_before (written page at first) next rest k l inner
            ∙ get_or-written_in page at first k g (omega arith) (omega arith)
            ∙ sym (get_or-written_in page at (first ++ rest) k g (omega arith) outer ∙ get_or_append_left first rest 0 (k - at) (omega arith))
        | inr n ↦ elim (cases_lt k (next + length rest)) [
          | inl l ↦
              get_or-written_in (written page at first) next rest k n l inner
              ∙ ap (λ i. get_or rest i 0) (let w : k - next ≡ k - at - length first = omega arith in w)
              ∙ sym (get_or-written_in page at (first ++ rest) k g (omega arith) outer ∙ get_or-append_right first rest (length first) (k - at) 0 refl (omega arith))
          | inr a ↦
              get_or-written_after (written page at first) next rest k a inner
              ∙ get_or-written_after page at first k (omega arith) (omega arith)
              ∙ sym (get_or-written_after page at (first ++ rest) k (omega arith) outer)
        ]
      ]
    ])

pub same-then : (a b : ℕ) (xs ys zs : List ℕ) → SameFrom a b xs ys → SameFrom a b ys zs → SameFrom a b xs zs
same-then a b xs ys zs h k = record { each = λ i p q. h.each i p q ∙ k.each i p q }

pub same-within : (a b c d : ℕ) (xs ys : List ℕ) → SameFrom a b xs ys → a ≤ c → d ≤ b → SameFrom c d xs ys
same-within a b c d xs ys h l u = record { each = λ i p q. h.each i (omega arith) (omega arith) }
