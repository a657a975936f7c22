-- Rising lists of ids as sets: two with the same members are one.
use Rattle.std.proofs.Common.{◌≡◌, ◌<◌, ◌≤◌, ◌+◌, ℕ, suc, length, Bool, true, false, ◌&&◌, ◌||◌, cond, nat_eq, nat_lt, refl, sym, ap, ◌∙◌, subst, inl, inr, arith, List, [], ◌∷◌, map}
use Rattle.std.specs.List.{list_all, sum_by}
use Rattle.std.specs.List.Sorted.{IsPermutation}
use Rattle.std.proofs.lemmas.Bool.{and_parts, and_from, both_ways, ltb-true, lt-ltb, le-ltb, eq-eqb, ne_eqb, cases_order, cases_Bool, eqb-true}
use Rattle.std.proofs.lemmas.List.Sorted.{length_permutation, sum_by-IsPermutation}
use Rattle.std.proofs.lemmas.List.Sums.{sum_by-cons}
use Rattle.pg_types.specs.declared.names.Xid.{Xid}
use Rattle.known_assigned.specs.declared.running_set.Slot.{Slot}
use Rattle.known_assigned.specs.Ids.{is_among, numbers, with_id, with_ids}
use Rattle.known_assigned.specs.Slots.{is_rising, live_ids}
use Rattle.known_assigned.proofs.Ordered.{is_among-none, is_among-with_id, list_all-weaker, others-above}
use Rattle.known_assigned.proofs.Slotted.{above, length-live_ids_of, list_all-live_ids}
use Rattle.std.proofs.Math.Bool.{or-false}

-- whether each id is below all later ones
abbrev pub ordered : List ℕ → Bool
ordered [] = true
ordered (x ∷ xs) = list_all (nat_lt x) xs && ordered xs

list_all-with_id : (p : ℕ → Bool) (x : ℕ) (xs : List ℕ) → p x ≡ true → list_all p xs ≡ true → list_all p (with_id x xs) ≡ true
list_all-with_id p x [] new h = and_from (p x) true new refl
list_all-with_id p x (z ∷ zs) new h =
    let parts = and_parts (p z) (list_all p zs) h in
    elim (cases_order x z) [
      | inl same ↦
          let not_lower : nat_lt x z ≡ false = le-ltb x z (omega arith) in
          rw (not_lower, eq-eqb x z same) h
      | inr differ ↦ elim differ [
        | inl lower ↦ rw (lt-ltb x z lower) (and_from (p x) (p z && list_all p zs) new h)
        | inr higher ↦
            let not_lower : nat_lt x z ≡ false = le-ltb x z (omega arith) in
            let other : nat_eq x z ≡ false = ne_eqb x z (λ e. omega arith) in
            rw (not_lower, other) (and_from (p z) (list_all p (with_id x zs)) parts.0 (list_all-with_id p x zs new parts.1))
      ]
    ]

ordered-with_id : (x : ℕ) (xs : List ℕ) → ordered xs ≡ true → ordered (with_id x xs) ≡ true
ordered-with_id x [] h = refl
ordered-with_id x (z ∷ zs) h =
    let parts = and_parts (list_all (nat_lt z) zs) (ordered zs) h in
    elim (cases_order x z) [
      | inl same ↦
          let not_lower : nat_lt x z ≡ false = le-ltb x z (omega arith) in
          rw (not_lower, eq-eqb x z same) h
      | inr differ ↦ elim differ [
        | inl lower ↦
            let behind = list_all-weaker (nat_lt z) (nat_lt x) (λ y k. lt-ltb x y (omega (arith, ltb-true z y k))) zs parts.0 in
            let front : list_all (nat_lt x) (z ∷ zs) ≡ true = and_from (nat_lt x z) (list_all (nat_lt x) zs) (lt-ltb x z lower) behind in
            rw (lt-ltb x z lower) (and_from (list_all (nat_lt x) (z ∷ zs)) (ordered (z ∷ zs)) front h)
        | inr higher ↦
            let not_lower : nat_lt x z ≡ false = le-ltb x z (omega arith) in
            let other : nat_eq x z ≡ false = ne_eqb x z (λ e. omega arith) in
            rw (not_lower, other)
            (and_from (list_all (nat_lt z) (with_id x zs)) (ordered (with_id x zs))
            (list_all-with_id (nat_lt z) x zs (lt-ltb z x higher) parts.0) (ordered-with_id x zs parts.1))
      ]
    ]

pub ordered-with_ids : (new xs : List ℕ) → ordered xs ≡ true → ordered (with_ids new xs) ≡ true
ordered-with_ids [] xs h = h
ordered-with_ids (x ∷ new) xs h = ordered-with_ids new (with_id x xs) (ordered-with_id x xs h)

or_regrouped : (a b c : Bool) → (a || (b || c)) ≡ ((b || a) || c)
or_regrouped true true c = refl
or_regrouped true false c = refl
or_regrouped false true c = refl
or_regrouped false false c = refl

pub is_among-with_ids : (y : ℕ) (new xs : List ℕ) → is_among y (with_ids new xs) ≡ (is_among y new || is_among y xs)
is_among-with_ids y [] xs = refl
is_among-with_ids y (x ∷ new) xs =
    is_among-with_ids y new (with_id x xs)
    ∙ ap (λ b. is_among y new || b) (is_among-with_id y x xs)
    ∙ or_regrouped (is_among y new) (nat_eq x y) (is_among y xs)

-- the first of a rising list is among it, and no id below it is
first_in : (x : ℕ) (xs : List ℕ) → is_among x (x ∷ xs) ≡ true
first_in x xs = rw (eq-eqb x x refl) refl

none_below : (y x : ℕ) (xs : List ℕ) → list_all (nat_lt x) xs ≡ true → y < x → is_among y (x ∷ xs) ≡ false
none_below y x xs h low =
    let higher = list_all-weaker (nat_lt x) (nat_lt y) (λ z k. lt-ltb y z (omega (arith, ltb-true x z k))) xs h in
    is_among-none y (x ∷ xs) (others-above y (x ∷ xs) (and_from (nat_lt y x) (list_all (nat_lt y) xs) (lt-ltb y x low) higher))

none_again : (x : ℕ) (xs : List ℕ) → list_all (nat_lt x) xs ≡ true → is_among x xs ≡ false
none_again x xs h = is_among-none x xs (others-above x xs h)

-- two rising lists with the same members are one
pub same_set : (xs ys : List ℕ) → ordered xs ≡ true → ordered ys ≡ true → ((y : ℕ) → is_among y xs ≡ is_among y ys) → xs ≡ ys
same_set [] [] ox oy h = refl
same_set [] (y ∷ ys) ox oy h = absurd (both_ways (is_among y (y ∷ ys)) (sym (h y)) (first_in y ys))
same_set (x ∷ xs) [] ox oy h = absurd (both_ways (is_among x (x ∷ xs)) (h x) (first_in x xs))
same_set (x ∷ xs) (y ∷ ys) ox oy h =
    let px = and_parts (list_all (nat_lt x) xs) (ordered xs) ox in
    let py = and_parts (list_all (nat_lt y) ys) (ordered ys) oy in
    elim (cases_order x y) [
      | inl same ↦
          let tails : (z : ℕ) → is_among z xs ≡ is_among z ys = λ z. tail_of x y xs ys same px.0 py.0 h z in
          let rest : xs ≡ ys = same_set xs ys px.1 py.1 tails in
          cc
      | inr differ ↦ elim differ [
        | inl lower ↦ absurd (both_ways (is_among x (y ∷ ys)) (none_below x y ys py.0 lower) (sym (h x) ∙ first_in x xs))
        | inr higher ↦ absurd (both_ways (is_among y (x ∷ xs)) (none_below y x xs px.0 higher) (h y ∙ first_in y ys))
      ]
    ]
  where
    tail_of : (x y : ℕ) (xs ys : List ℕ) → x ≡ y → list_all (nat_lt x) xs ≡ true → list_all (nat_lt y) ys ≡ true
        → ((z : ℕ) → is_among z (x ∷ xs) ≡ is_among z (y ∷ ys)) → (z : ℕ) → is_among z xs ≡ is_among z ys
    tail_of x y xs ys same lx ly h z =
        elim (cases_Bool (nat_eq x z)) [
          | inl here ↦
              let at_x : x ≡ z = eqb-true x z here in
              let none_x : is_among z xs ≡ false = subst (λ (w : ℕ). is_among w xs ≡ false) at_x (none_again x xs lx) in
              let none_y : is_among z ys ≡ false = subst (λ (w : ℕ). is_among w ys ≡ false) (sym same ∙ at_x) (none_again y ys ly) in
              none_x ∙ sym none_y
          | inr away ↦
              let away_y : nat_eq y z ≡ false = subst (λ (w : ℕ). nat_eq w z ≡ false) same away in
              let left : is_among z (x ∷ xs) ≡ is_among z xs = rw away refl in
              let right : is_among z (y ∷ ys) ≡ is_among z ys = rw away_y refl in
              sym left ∙ h z ∙ right
        ]

-- how often an id that has not ended stands in places, and that this tells whether it is among them
abbrev copies : ℕ → Slot → ℕ
copies y s = cond s.live (cond (nat_eq s.xid y) 1 0) 0

is_among-copies : (y : ℕ) (slots : List Slot) → is_among y (live_ids slots) ≡ nat_lt 0 (sum_by (copies y) slots)
is_among-copies y [] = sym (le-ltb 0 0 (omega arith))
is_among-copies y (s ∷ rest) =
    let n = sum_by (copies y) rest in
    sym (ap (nat_lt 0) (sum_by-cons (copies y) s rest)
    ∙ sym (elim s.live as (λ l. is_among y (cond l (s.xid ∷ live_ids rest) (live_ids rest)) ≡ nat_lt 0 (cond l (cond (nat_eq s.xid y) 1 0) 0 + n)) [
      | true ↦ elim (nat_eq s.xid y) as (λ e. (e || is_among y (live_ids rest)) ≡ nat_lt 0 (cond e 1 0 + n)) [
        | true ↦ sym (lt-ltb 0 (1 + n) (omega arith))
        | false ↦ let same : 0 + n ≡ n = omega arith in is_among-copies y rest ∙ sym (ap (nat_lt 0) same)
      ]
      | false ↦ let same : 0 + n ≡ n = omega arith in is_among-copies y rest ∙ sym (ap (nat_lt 0) same)
    ]))

ordered-live_ids : (slots : List Slot) → is_rising slots ≡ true → ordered (live_ids slots) ≡ true
ordered-live_ids [] h = refl
ordered-live_ids (s ∷ rest) h =
    let parts = and_parts (list_all (above s.xid) rest) (is_rising rest) h in
    elim s.live as (λ l. ordered (cond l (s.xid ∷ live_ids rest) (live_ids rest)) ≡ true) [
      | true ↦ and_from (list_all (nat_lt s.xid) (live_ids rest)) (ordered (live_ids rest)) (list_all-live_ids (nat_lt s.xid) rest parts.0) (ordered-live_ids rest parts.1)
      | false ↦ ordered-live_ids rest parts.1
    ]

-- places that were put in another order hold the ids of those before
pub is_among-sorted : (y : ℕ) (slots sorted : List Slot) → IsPermutation slots sorted → is_among y (live_ids sorted) ≡ is_among y (live_ids slots)
is_among-sorted y slots sorted moved =
    is_among-copies y sorted ∙ ap (nat_lt 0) (sum_by-IsPermutation (copies y) slots sorted moved) ∙ sym (is_among-copies y slots)

-- rising places with the ids of these hold each of them once
pub live_ids-from : (slots kept : List Slot) → is_rising kept ≡ true → ((y : ℕ) → is_among y (live_ids kept) ≡ is_among y (live_ids slots)) → live_ids kept ≡ with_ids (live_ids slots) []
live_ids-from slots kept h among =
    same_set (live_ids kept) (with_ids (live_ids slots) []) (ordered-live_ids kept h) (ordered-with_ids (live_ids slots) [] refl)
    (λ y. among y ∙ sym (is_among-with_ids y (live_ids slots) [] ∙ or-false (is_among y (live_ids slots))))

-- the places of listed ids
abbrev pub placed : List Xid → List Slot
placed xids = map (λ (x : Xid). record { xid = x.0; live = true }) xids

pub live_ids-placed : (xids : List Xid) → live_ids (placed xids) ≡ numbers xids
live_ids-placed [] = refl
live_ids-placed (x ∷ xids) = ap (λ l. x.0 ∷ l) (live_ids-placed xids)

-- places that are all live stay so in another order
abbrev one_each : Slot → ℕ
one_each s = cond s.live 1 0

length-live_ids_sum : (slots : List Slot) → length (live_ids slots) ≡ sum_by one_each slots
length-live_ids_sum [] = refl
length-live_ids_sum (s ∷ rest) =
    length-live_ids_of s rest ∙ ap (λ n. cond s.live 1 0 + n) (length-live_ids_sum rest) ∙ sym (sum_by-cons one_each s rest)

pub length-live_ids_sorted : (slots sorted : List Slot) → IsPermutation slots sorted → length (live_ids sorted) ≡ length (live_ids slots)
length-live_ids_sorted slots sorted moved =
    length-live_ids_sum sorted ∙ sum_by-IsPermutation one_each slots sorted moved ∙ sym (length-live_ids_sum slots)

pub length-live_ids_placed : (xids : List Xid) → length (live_ids (placed xids)) ≡ length (placed xids)
length-live_ids_placed [] = refl
length-live_ids_placed (x ∷ xids) = ap suc (length-live_ids_placed xids)

pub live-all : (slots sorted : List Slot) (xids : List Xid) → IsPermutation slots sorted → slots ≡ placed xids → length sorted ≤ length (live_ids sorted)
live-all slots sorted xids moved all =
    omega (
      arith,
      length_permutation slots sorted moved,
      length-live_ids_sorted slots sorted moved,
      ap (λ (l : List Slot). length l) all,
      ap (λ (l : List Slot). length (live_ids l)) all,
      length-live_ids_placed xids,
    )
