-- Which ids are in a set after each of its changes.
use Rattle.std.proofs.Common.{◌≡◌, ℕ, zero, suc, ◌+◌, ◌<◌, ◌≤◌, max, min, Bool, true, false, ◌==◌, not, cond, List, [], ◌∷◌, filter, arith, refl, sym, inl, inr, ◌⊎◌, subst, fold, nat_lt, slice_get, unwrap_or}
use Rattle.std.proofs.lemmas.Bool.{ltb-true, ltb-false, or_cases, or_left, or_right, eqb-true, eq-eqb, cond_both, cases_Bool, cases_lt, cases_order, eqb-false, both_ways, false≢true, not-true, not_from_false}
use Rattle.std.proofs.Math.Nat.{min-eq_left, min-eq_right}
use Rattle.std.specs.List.{range_with_len}
use Rattle.known_assigned.specs.Ids.{is_among, with_id, with_ids, without, greatest}

pub among_cases : (x y : ℕ) (ys : List ℕ) → is_among x (y ∷ ys) ≡ true → (y ≡ x) ⊎ (is_among x ys ≡ true)
among_cases x y ys h = elim (or_cases (y == x) (is_among x ys) h) [ inl e ↦ inl (eqb-true y x e) | inr e ↦ inr e ]

pub among_first : (x y : ℕ) (ys : List ℕ) → y ≡ x → is_among x (y ∷ ys) ≡ true
among_first x y ys e = or_left (y == x) (is_among x ys) (eq-eqb y x e)

pub among_later : (x y : ℕ) (ys : List ℕ) → is_among x ys ≡ true → is_among x (y ∷ ys) ≡ true
among_later x y ys h = or_right (y == x) (is_among x ys) h

pub in_with_id : (x y : ℕ) (set : List ℕ) → is_among x (with_id y set) ≡ true → (y ≡ x) ⊎ (is_among x set ≡ true)
in_with_id x y [] = λ h. among_cases x y [] h
in_with_id x y (z ∷ set) =
    cond_both (nat_lt y z) (y ∷ z ∷ set) (cond (y == z) (z ∷ set) (z ∷ with_id y set))
    (λ (l : List ℕ). is_among x l ≡ true → (y ≡ x) ⊎ (is_among x (z ∷ set) ≡ true))
    (λ e h. among_cases x y (z ∷ set) h)
    (λ e.
    cond_both (y == z) (z ∷ set) (z ∷ with_id y set)
    (λ (l : List ℕ). is_among x l ≡ true → (y ≡ x) ⊎ (is_among x (z ∷ set) ≡ true))
    (λ f h. inr h)
    (λ f h.
    elim (among_cases x z (with_id y set) h) [
      | inl g ↦ inr (among_first x z set g)
      | inr g ↦ elim (in_with_id x y set g) [ inl i ↦ inl i | inr i ↦ inr (among_later x z set i) ]
    ]))

pub kept_with_id : (x y : ℕ) (set : List ℕ) → is_among x set ≡ true → is_among x (with_id y set) ≡ true
kept_with_id x y [] h = absurd (false≢true h)
kept_with_id x y (z ∷ set) h =
    cond_both (nat_lt y z) (y ∷ z ∷ set) (cond (y == z) (z ∷ set) (z ∷ with_id y set))
    (λ (l : List ℕ). is_among x l ≡ true)
    (λ e. among_later x y (z ∷ set) h)
    (λ e.
    cond_both (y == z) (z ∷ set) (z ∷ with_id y set)
    (λ (l : List ℕ). is_among x l ≡ true)
    (λ f. h)
    (λ f.
    elim (among_cases x z set h) [
      | inl g ↦ among_first x z (with_id y set) g
      | inr g ↦ among_later x z (with_id y set) (kept_with_id x y set g)
    ]))

pub put_with_id : (x : ℕ) (set : List ℕ) → is_among x (with_id x set) ≡ true
put_with_id x [] = among_first x x [] refl
put_with_id x (z ∷ set) =
    cond_both (nat_lt x z) (x ∷ z ∷ set) (cond (x == z) (z ∷ set) (z ∷ with_id x set))
    (λ (l : List ℕ). is_among x l ≡ true)
    (λ e. among_first x x (z ∷ set) refl)
    (λ e.
    cond_both (x == z) (z ∷ set) (z ∷ with_id x set)
    (λ (l : List ℕ). is_among x l ≡ true)
    (λ f. among_first x z set (sym (eqb-true x z f)))
    (λ f. among_later x z (with_id x set) (put_with_id x set)))

pub in_with_ids :
    (x : ℕ) (new set : List ℕ) → is_among x (with_ids new set) ≡ true → (is_among x new ≡ true) ⊎ (is_among x set ≡ true)
in_with_ids x [] set h = inr h
in_with_ids x (y ∷ new) set h =
    elim (in_with_ids x new (with_id y set) h) [
      | inl e ↦ inl (among_later x y new e)
      | inr e ↦ elim (in_with_id x y set e) [ inl f ↦ inl (among_first x y new f) | inr f ↦ inr f ]
    ]

pub kept_with_ids : (x : ℕ) (new set : List ℕ) → is_among x set ≡ true → is_among x (with_ids new set) ≡ true
kept_with_ids x [] set h = h
kept_with_ids x (y ∷ new) set h = kept_with_ids x new (with_id y set) (kept_with_id x y set h)

pub put_with_ids : (x : ℕ) (new set : List ℕ) → is_among x new ≡ true → is_among x (with_ids new set) ≡ true
put_with_ids x [] set h = absurd (false≢true h)
put_with_ids x (y ∷ new) set h =
    elim (among_cases x y new h) [
      | inl e ↦ kept_with_ids x new (with_id y set) (subst (λ (z : ℕ). is_among z (with_id y set) ≡ true) e (put_with_id y set))
      | inr e ↦ put_with_ids x new (with_id y set) e
    ]

-- what a filter keeps
pub in_filter :
    (p : ℕ → Bool) (x : ℕ) (xs : List ℕ) → is_among x (filter p xs) ≡ true → (is_among x xs ≡ true) × (p x ≡ true)
in_filter p x [] = λ h. absurd (false≢true h)
in_filter p x (y ∷ xs) =
    cond_both (p y) (y ∷ filter p xs) (filter p xs)
    (λ (l : List ℕ). is_among x l ≡ true → (is_among x (y ∷ xs) ≡ true) × (p x ≡ true))
    (λ e h.
    elim (among_cases x y (filter p xs) h) [
      | inl f ↦ (among_first x y xs f, subst (λ (z : ℕ). p z ≡ true) f e)
      | inr f ↦ let (g, i) = in_filter p x xs f in (among_later x y xs g, i)
    ])
    (λ e h. let (g, i) = in_filter p x xs h in (among_later x y xs g, i))

pub kept_by_filter :
    (p : ℕ → Bool) (x : ℕ) (xs : List ℕ) → is_among x xs ≡ true → p x ≡ true → is_among x (filter p xs) ≡ true
kept_by_filter p x [] h e = absurd (false≢true h)
kept_by_filter p x (y ∷ xs) h e =
    cond_both (p y) (y ∷ filter p xs) (filter p xs) (λ (l : List ℕ). is_among x l ≡ true)
    (λ f.
    elim (among_cases x y xs h) [
      | inl g ↦ among_first x y (filter p xs) g
      | inr g ↦ among_later x y (filter p xs) (kept_by_filter p x xs g e)
    ])
    (λ f.
    elim (among_cases x y xs h) [
      | inl g ↦ absurd (both_ways (p x) (subst (λ (z : ℕ). p z ≡ false) g f) e)
      | inr g ↦ kept_by_filter p x xs g e
    ])

pub in_without :
    (x : ℕ) (out xs : List ℕ) → is_among x (without out xs) ≡ true → (is_among x xs ≡ true) × (is_among x out ≡ false)
in_without x out xs h =
    let (e, f) = in_filter (λ (y : ℕ). not (is_among y out)) x xs h in (e, not-true (is_among x out) f)

pub kept_without :
    (x : ℕ) (out xs : List ℕ) → is_among x xs ≡ true → is_among x out ≡ false → is_among x (without out xs) ≡ true
kept_without x out xs h e = kept_by_filter (λ (y : ℕ). not (is_among y out)) x xs h (not_from_false (is_among x out) e)

above : (a x : ℕ) → (a == x) ≡ false → a ≤ x → a + 1 ≤ x
above a x e h =
    elim (cases_order a x) [
      | inl f ↦ absurd (eqb-false a x e f)
      | inr (inl f) ↦ omega arith
      | inr (inr f) ↦ absurd (omega arith)
    ]

-- numbers in a row
pub in_range : (x a n : ℕ) → is_among x (range_with_len a n) ≡ true → (a ≤ x) × (x < a + n)
in_range x a zero h = absurd (false≢true h)
in_range x a (suc n) h =
    elim (among_cases x a (range_with_len (a + 1) n) h) [
      | inl e ↦ (omega arith, omega arith)
      | inr e ↦ let (f, g) = in_range x (a + 1) n e in (omega arith, omega arith)
    ]

pub put_in_range : (x a n : ℕ) → a ≤ x → x < a + n → is_among x (range_with_len a n) ≡ true
put_in_range x a zero h g = absurd (omega arith)
put_in_range x a (suc n) h g =
    elim (cases_Bool (a == x)) [
      | inl e ↦ among_first x a (range_with_len (a + 1) n) (eqb-true a x e)
      | inr e ↦ among_later x a (range_with_len (a + 1) n) (put_in_range x (a + 1) n (above a x e h) (omega arith))
    ]

-- the greatest
from_fold : (a : ℕ) (xs : List ℕ) → a ≤ fold max a xs
from_fold a [] = omega arith
from_fold a (x ∷ xs) = let h = from_fold (max a x) xs in omega arith

up_to_fold : (a y : ℕ) (xs : List ℕ) → is_among y xs ≡ true → y ≤ fold max a xs
up_to_fold a y [] h = absurd (false≢true h)
up_to_fold a y (x ∷ xs) h =
    elim (among_cases y x xs h) [
      | inl e ↦ let f = from_fold (max a x) xs in omega arith
      | inr e ↦ up_to_fold (max a x) y xs e
    ]

pub up_to_greatest : (y : ℕ) (xs : List ℕ) → is_among y xs ≡ true → y ≤ greatest xs
up_to_greatest y xs h = up_to_fold 0 y xs h

below_fold : (a n : ℕ) (xs : List ℕ) → a < n → ((y : ℕ) → is_among y xs ≡ true → y < n) → fold max a xs < n
below_fold a n [] h all = h
below_fold a n (x ∷ xs) h all =
    let first = all x (among_first x x xs refl) in
    below_fold (max a x) n xs (omega arith) (λ y e. all y (among_later y x xs e))

pub below_greatest : (n : ℕ) (xs : List ℕ) → 0 < n → ((y : ℕ) → is_among y xs ≡ true → y < n) → greatest xs < n
below_greatest n xs h all = below_fold 0 n xs h all

-- the least of an id and a list
abbrev pub least : ℕ → List ℕ → ℕ
least x [] = x
least x (y ∷ ys) = min y (least x ys)

pub least_up_to : (x : ℕ) (xs : List ℕ) → least x xs ≤ x
least_up_to x [] = omega arith
least_up_to x (y ∷ xs) = let h = least_up_to x xs in omega arith

pub least_below : (x y : ℕ) (xs : List ℕ) → is_among y xs ≡ true → least x xs ≤ y
least_below x y [] h = absurd (false≢true h)
least_below x y (z ∷ xs) h =
    elim (among_cases y z xs h) [
      | inl e ↦ omega arith
      | inr e ↦ let f = least_below x y xs e in omega arith
    ]

below_or_same : (a b : ℕ) → a < b → a ≤ b
below_or_same a b h = omega arith

least_of_two : (P : ℕ → Type 0) (a b : ℕ) → P a → P b → P (min a b)
least_of_two P a b p q =
    elim (cases_lt a b) [
      | inl h ↦ subst P (sym (min-eq_left (below_or_same a b h))) p
      | inr h ↦ subst P (sym (min-eq_right h)) q
    ]

-- what holds of an id and of each of a list holds of the least
pub least_has :
    (P : ℕ → Type 0) (x : ℕ) (xs : List ℕ) → P x → ((y : ℕ) → is_among y xs ≡ true → P y) → P (least x xs)
least_has P x [] h all = h
least_has P x (y ∷ xs) h all =
    least_of_two P y (least x xs) (all y (among_first y y xs refl)) (least_has P x xs h (λ z e. all z (among_later z y xs e)))

-- each id is below all later ones
abbrev pub Rising : List ℕ → Type 0
Rising [] = Unit {0}
Rising (x ∷ xs) = ((y : ℕ) → is_among y xs ≡ true → x < y) × Rising xs

rising_with_id : (x : ℕ) (set : List ℕ) → Rising set → Rising (with_id x set)
rising_with_id x [] r = (λ y h. absurd (false≢true h), tt)
rising_with_id x (z ∷ set) (low, r) =
    cond_both (nat_lt x z) (x ∷ z ∷ set) (cond (x == z) (z ∷ set) (z ∷ with_id x set)) (λ (l : List ℕ). Rising l)
    (λ e.
    let below = ltb-true x z e in (
      λ y h. elim (among_cases y z set h) [ inl f ↦ omega arith | inr f ↦ let g = low y f in omega arith ],
      (low, r),
    ))
    (λ e.
    cond_both (x == z) (z ∷ set) (z ∷ with_id x set) (λ (l : List ℕ). Rising l) (λ f. (low, r))
    (λ f.
    let high = ltb-false x z e in (
      λ y h.
          elim (in_with_id y x set h) [
            | inl g ↦
                elim (cases_order x z) [
                  | inl i ↦ absurd (eqb-false x z f i)
                  | inr (inl i) ↦ absurd (omega arith)
                  | inr (inr i) ↦ omega arith
                ]
            | inr g ↦ low y g
          ],
      rising_with_id x set r,
    )))

pub rising_with_ids : (new set : List ℕ) → Rising set → Rising (with_ids new set)
rising_with_ids [] set r = r
rising_with_ids (x ∷ new) set r = rising_with_ids new (with_id x set) (rising_with_id x set r)

pub rising_filter : (p : ℕ → Bool) (xs : List ℕ) → Rising xs → Rising (filter p xs)
rising_filter p [] r = tt
rising_filter p (x ∷ xs) (low, r) =
    cond_both (p x) (x ∷ filter p xs) (filter p xs) (λ (l : List ℕ). Rising l)
    (λ e. (λ y h. low y (in_filter p y xs h).0, rising_filter p xs r)) (λ e. rising_filter p xs r)

-- a least id that is not above those below all of the list is not one of the list
least_or_m : (m x : ℕ) (xs : List ℕ) → ((y : ℕ) → is_among y xs ≡ true → x < y) → least m xs ≤ x → least m xs ≡ m
least_or_m m x xs low =
    least_has (λ (n : ℕ). n ≤ x → n ≡ m) m xs (λ h. refl) (λ y h e. let f = low y h in absurd (omega arith))

-- the first of a rising list is its least
pub first_is_least : (m : ℕ) (xs : List ℕ) → Rising xs → min (unwrap_or (slice_get xs 0) m) m ≡ least m xs
first_is_least m [] r = omega arith
first_is_least m (x ∷ xs) (low, r) =
    elim (cases_lt x (least m xs)) [
      | inl e ↦ let f = least_up_to m xs in omega arith
      | inr e ↦
          let same : least m xs ≡ m = least_or_m m x xs low e in omega arith
    ]
