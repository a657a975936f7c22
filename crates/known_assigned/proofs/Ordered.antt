-- Rising lists of ids: where an id goes in, and what taking it out leaves.
use Rattle.std.proofs.Common.{◌-◌, ◌≡◌, ◌<◌, ◌≤◌, ◌+◌, ℕ, zero, suc, max, Bool, true, false, not, ◌||◌, cond, nat_eq, nat_lt, nat_le, refl, sym, ap, ◌∙◌, subst, inl, inr, arith, List, [], ◌∷◌, ◌++◌, length, get_or, fold}
use Rattle.std.specs.List.{list_all, filter, range_with_len}
use Rattle.std.proofs.lemmas.Bool.{and_parts, and_from, or_from, ltb-true, lt-ltb, le-ltb, leb-true, eq-eqb, ne_eqb, eqb-false, cases_Bool, cases_order, not-true}
use Rattle.known_assigned.specs.Ids.{ids_above, is_among, minus, numbers, with_id, without}
use Rattle.pg_types.specs.declared.names.Xid.{Xid}

-- a test that implies another
pub list_all-weaker : {X : Type 0} (p q : X → Bool) → ((x : X) → p x ≡ true → q x ≡ true) → (xs : List X) → list_all p xs ≡ true → list_all q xs ≡ true
list_all-weaker p q implies [] h = refl
list_all-weaker p q implies (x ∷ xs) h =
    let parts = and_parts (p x) (list_all p xs) h in
    and_from (q x) (list_all q xs) (implies x parts.0) (list_all-weaker p q implies xs parts.1)

pub or_twice : (a b : Bool) → (a || b) ≡ (a || (a || b))
or_twice true b = refl
or_twice false b = refl

-- a filter that all pass
pub filter-whole : {X : Type 0} (p : X → Bool) (xs : List X) → list_all p xs ≡ true → filter p xs ≡ xs
filter-whole p [] h = refl
filter-whole p (x ∷ xs) h =
    let parts = and_parts (p x) (list_all p xs) h in
    rw (parts.0, filter-whole p xs parts.1) refl

-- an id above those at the front goes in behind them
pub with_id-past : (x : ℕ) (xs ys : List ℕ) → list_all (λ y. nat_lt y x) xs ≡ true → with_id x (xs ++ ys) ≡ xs ++ with_id x ys
with_id-past x [] ys h = refl
with_id-past x (y ∷ xs) ys h =
    let parts = and_parts (nat_lt y x) (list_all (λ z. nat_lt z x) xs) h in
    let below : y < x = ltb-true y x parts.0 in
    let not_lower : nat_lt x y ≡ false = le-ltb x y (omega arith) in
    let other : nat_eq x y ≡ false = ne_eqb x y (λ e. omega arith) in
    rw (not_lower, other, with_id-past x xs ys parts.1) refl

-- an id below all of them goes in at the front
pub with_id-front : (x : ℕ) (ys : List ℕ) → list_all (nat_lt x) ys ≡ true → with_id x ys ≡ x ∷ ys
with_id-front x [] h = refl
with_id-front x (y ∷ ys) h = rw ((and_parts (nat_lt x y) (list_all (nat_lt x) ys) h).0) refl

-- an id that stands at the front is there already
pub with_id-there : (x y : ℕ) (ys : List ℕ) → y ≡ x → with_id x (y ∷ ys) ≡ x ∷ ys
with_id-there x y ys e =
    let not_lower : nat_lt x y ≡ false = le-ltb x y (omega arith) in
    let same : nat_eq x y ≡ true = eq-eqb x y (sym e) in
    rw (not_lower, same) (ap (λ z. z ∷ ys) e)

-- those below x, and those above, are other than x
pub others-below : (x : ℕ) (xs : List ℕ) → list_all (λ y. nat_lt y x) xs ≡ true → list_all (λ y. not (nat_eq x y)) xs ≡ true
others-below x = list_all-weaker (λ y. nat_lt y x) (λ y. not (nat_eq x y)) (λ y h. rw (ne_eqb x y (λ e. omega (arith, ltb-true y x h))) refl)

pub others-above : (x : ℕ) (xs : List ℕ) → list_all (nat_lt x) xs ≡ true → list_all (λ y. not (nat_eq x y)) xs ≡ true
others-above x = list_all-weaker (nat_lt x) (λ y. not (nat_eq x y)) (λ y h. rw (ne_eqb x y (λ e. omega (arith, ltb-true x y h))) refl)

-- an id that all differ from is not among them
pub is_among-none : (x : ℕ) (xs : List ℕ) → list_all (λ y. not (nat_eq x y)) xs ≡ true → is_among x xs ≡ false
is_among-none x [] h = refl
is_among-none x (y ∷ ys) h =
    let parts = and_parts (not (nat_eq x y)) (list_all (λ z. not (nat_eq x z)) ys) h in
    or_from (nat_eq y x) (is_among x ys) (ne_eqb y x (λ e. eqb-false x y (not-true (nat_eq x y) parts.0) (sym e))) (is_among-none x ys parts.1)

-- to take ids out is to take them out one after another
pub without-cons : (x : ℕ) (out xs : List ℕ) → without (x ∷ out) xs ≡ without out (minus x xs)
without-cons x out [] = refl
without-cons x out (y ∷ ys) =
    elim (cases_Bool (nat_eq x y)) [
      | inl same ↦ rw (same, without-cons x out ys) refl
      | inr other ↦ rw (other, without-cons x out ys) refl
    ]

pub without-none : (xs : List ℕ) → without [] xs ≡ xs
without-none [] = refl
without-none (x ∷ xs) = ap (λ l. x ∷ l) (without-none xs)

-- what is among the ids after one is put in
pub is_among-with_id : (y x : ℕ) (xs : List ℕ) → is_among y (with_id x xs) ≡ (nat_eq x y || is_among y xs)
is_among-with_id y x [] = refl
is_among-with_id y x (z ∷ zs) =
    elim (cases_order x z) [
      | inl same ↦
          let not_lower : nat_lt x z ≡ false = le-ltb x z (omega arith) in
          rw (not_lower, eq-eqb x z same) (subst (λ (w : ℕ). (nat_eq z y || is_among y zs) ≡ (nat_eq w y || (nat_eq z y || is_among y zs))) (sym same) (or_twice (nat_eq z y) (is_among y zs)))
      | inr differ ↦ elim differ [
        | inl lower ↦ rw (lt-ltb x z lower) refl
        | inr higher ↦
            let not_lower : nat_lt x z ≡ false = le-ltb x z (omega arith) in
            let other : nat_eq x z ≡ false = ne_eqb x z (λ e. omega arith) in
            rw (not_lower, other) (ap (λ b. nat_eq z y || b) (is_among-with_id y x zs) ∙ or_turned (nat_eq z y) (nat_eq x y) (is_among y zs))
      ]
    ]
  where
    or_turned : (a b c : Bool) → (a || (b || c)) ≡ (b || (a || c))
    or_turned true true c = refl
    or_turned true false c = refl
    or_turned false b c = refl

-- ids above x are in the set after x is put in where they were before
pub without-above : (x a n : ℕ) (ids : List ℕ) → x < a → without (with_id x ids) (range_with_len a n) ≡ without ids (range_with_len a n)
without-above x a zero ids h = refl
without-above x a (suc n) ids h =
    let other : nat_eq x a ≡ false = ne_eqb x a (λ e. omega arith) in
    let same : is_among a (with_id x ids) ≡ is_among a ids = is_among-with_id a x ids ∙ rw other refl in
    ap (λ b. cond (not b) (a ∷ without (with_id x ids) (range_with_len (a + 1) n)) (without (with_id x ids) (range_with_len (a + 1) n))) same
    ∙ ap (λ l. cond (not (is_among a ids)) (a ∷ l) l) (without-above x (a + 1) n ids (omega arith))

-- no id above all of the set is in it
pub is_among-high : (low y : ℕ) (ids : List ℕ) → list_all (λ x. nat_le x low) ids ≡ true → low < y → is_among y ids ≡ false
is_among-high low y [] h above = refl
is_among-high low y (x ∷ xs) h above =
    let parts = and_parts (nat_le x low) (list_all (λ z. nat_le z low) xs) h in
    or_from (nat_eq x y) (is_among y xs) (ne_eqb x y (λ e. omega (arith, leb-true x low parts.0))) (is_among-high low y xs parts.1 above)

pub without-high : (low a n : ℕ) (ids : List ℕ) → list_all (λ x. nat_le x low) ids ≡ true → low < a → without ids (range_with_len a n) ≡ range_with_len a n
without-high low a zero ids h above = refl
without-high low a (suc n) ids h above =
    ap (λ b. cond (not b) (a ∷ without ids (range_with_len (a + 1) n)) (without ids (range_with_len (a + 1) n))) (is_among-high low a ids h above)
    ∙ ap (λ l. a ∷ l) (without-high low (a + 1) n ids h (omega arith))

-- the greatest of a number and a list's greatest
pub fold-max : (a b : ℕ) (xs : List ℕ) → max a (fold max b xs) ≡ fold max (max a b) xs
fold-max a b [] = refl
fold-max a b (x ∷ xs) =
    let order : max a (max b x) ≡ max (max a b) x = omega arith in
    fold-max a (max b x) xs ∙ ap (λ m. fold max m xs) order

-- the ids above a number begin with the next
pub ids_above-next : (low high : ℕ) → low < high → ids_above low high ≡ (low + 1) ∷ ids_above (low + 1) high
ids_above-next low high h =
    let one : high - low ≡ suc (high - (low + 1)) = omega arith in
    ap (range_with_len (low + 1)) one

pub length-without_next : (low high : ℕ) (ids : List ℕ) → low < high
    → length (without ids (ids_above low high)) ≡ cond (is_among (low + 1) ids) 0 1 + length (without ids (ids_above (low + 1) high))
length-without_next low high ids h =
    ap (λ l. length (without ids l)) (ids_above-next low high h)
    ∙ elim (is_among (low + 1) ids) as (λ b. length (cond (not b) ((low + 1) ∷ without ids (ids_above (low + 1) high)) (without ids (ids_above (low + 1) high))) ≡ cond b 0 1 + length (without ids (ids_above (low + 1) high)))
    [ true ↦ omega arith | false ↦ omega arith ]

-- the greatest of ids within a bound is within it
pub greatest-within : (bound b : ℕ) (xids : List Xid) → b ≤ bound → ((k : ℕ) (d : Xid) → k < length xids → (get_or xids k d).0 ≤ bound) → fold max b (numbers xids) ≤ bound
greatest-within bound b [] low all = low
greatest-within bound b (x ∷ xids) low all =
    let first : x.0 ≤ bound = all 0 x (omega arith) in
    greatest-within bound (max b x.0) xids (omega arith) (λ k d h. all (suc k) d (omega arith))
