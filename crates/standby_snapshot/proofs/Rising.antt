-- An id in a rising list, found by halving.
use Rattle.std.proofs.Common.{◌≡◌, ◌∙◌, ◌<◌, ◌≤◌, ◌+◌, ℕ, inl, inr, true, false, List, length, get_or, nat_eq, nat_lt, sym, arith}
use Rattle.std.specs.Cmp.{both_ways}
use Rattle.std.specs.List.{Any}
use Rattle.std.specs.List.Sorted.{IsNonDecreasingBy, IsPartitionPoint, IsStrictlyIncreasing}
use Rattle.std.proofs.lemmas.Bool.{cases_lt, eqb-true, eq-eqb, ne_eqb, ltb-true, ltb-false}
use Rattle.std.proofs.lemmas.Grind.{get_or_default_zero}
use Rattle.std.proofs.lemmas.List.{get_or-map, length-map}
use Rattle.std.proofs.lemmas.List.Folds.{Any-from_list_any, list_any_at, list_any_none}
use Rattle.std.proofs.lemmas.List.Sorted.{IsNonDecreasingBy-from_all_adjacent}
use Rattle.pg_types.specs.declared.names.Xid.{Xid}
use Rattle.known_assigned.specs.Ids.{numbers}
use Rattle.standby_snapshot.specs.Snapshot.{is_among}

abbrev pub value : Xid → ℕ
value x = x.0

pub never_falls : (xids : List Xid) → IsStrictlyIncreasing (numbers xids) → IsNonDecreasingBy value xids
never_falls xids rising =
    IsNonDecreasingBy-from_all_adjacent value xids
    (λ k d h.
    let size : length (numbers xids) ≡ length xids = length-map xids value in
    let low : get_or (numbers xids) k 0 ≡ (get_or xids k d).0 = get_or-map value xids k d 0 (omega arith) in
    let high : get_or (numbers xids) (k + 1) 0 ≡ (get_or xids (k + 1) d).0 = get_or-map value xids (k + 1) d 0 (omega arith) in
    let below : get_or (numbers xids) k 0 < get_or (numbers xids) (k + 1) 0 = rising k (omega (arith, size, h)) in
    omega (arith, low, high, below))

-- at is the place where x stands or would stand
abbrev pub IsPlace : List Xid → ℕ → ℕ → Type 0
IsPlace xids x at = IsPartitionPoint (λ (y : Xid). nat_lt y.0 x ≡ true) (λ (y : Xid). nat_lt y.0 x ≡ false) xids at

-- an id that is x stands from the place on
from_place : (xids : List Xid) (x at k : ℕ) (d : Xid) → IsPlace xids x at → k < length xids → (get_or xids k d).0 ≡ x → at ≤ k
from_place xids x at k d place within same = elim (cases_lt k at) [
  | inl before ↦ absurd (omega (arith, ltb-true (get_or xids k d).0 x (place.0 k d (omega arith) before), same))
  | inr after ↦ after
]

pub found_at : (xids : List Xid) (x at : ℕ) (d : Xid) → IsNonDecreasingBy value xids → IsPlace xids x at → at < length xids → nat_eq (get_or xids at d).0 x ≡ is_among (numbers xids) x
found_at xids x at d ordered place inside =
    let here : get_or (numbers xids) at 0 ≡ (get_or xids at d).0 = get_or-map value xids at d 0 inside in
    both_ways (nat_eq (get_or xids at d).0 x) (is_among (numbers xids) x)
    (λ same. list_any_at (λ y. nat_eq y x) (numbers xids) at 0 (omega (arith, length-map xids value, inside)) (eq-eqb (get_or (numbers xids) at 0) x (here ∙ eqb-true (get_or xids at d).0 x same)))
    (λ among.
    let some : Any (λ y. nat_eq y x ≡ true) (numbers xids) = Any-from_list_any (λ y. nat_eq y x) (numbers xids) among in
    let k = some.0 in
    let within : k < length xids = omega (arith, length-map xids value, some.2) in
    let read : get_or (numbers xids) k 0 ≡ (get_or xids k d).0 = get_or-map value xids k d 0 within in
    let is : (get_or xids k d).0 ≡ x = sym read ∙ sym (get_or_default_zero (numbers xids) k some.1 some.2) ∙ some.3 ∙ eqb-true some.1 x some.4 in
    let after : at ≤ k = from_place xids x at k d place within is in
    let low : x ≤ (get_or xids at d).0 = omega (arith, ltb-false (get_or xids at d).0 x (place.1 at d (omega arith) inside)) in
    let high : (get_or xids at d).0 ≤ (get_or xids k d).0 = ordered at k d after within in
    eq-eqb (get_or xids at d).0 x (omega (arith, low, high, is)))

pub found_nowhere : (xids : List Xid) (x at : ℕ) → IsPlace xids x at → length xids ≤ at → false ≡ is_among (numbers xids) x
found_nowhere xids x at place outside =
    sym (list_any_none (λ y. nat_eq y x) (numbers xids)
    (λ k y h.
    let within : k < length xids = omega (arith, length-map xids value, h) in
    let d : Xid = record { 0 = y } in
    let read : get_or (numbers xids) k y ≡ (get_or xids k d).0 = get_or-map value xids k d y within in
    ne_eqb (get_or (numbers xids) k y) x (λ e. omega (arith, read, e, ltb-true (get_or xids k d).0 x (place.0 k d (omega arith) (omega arith))))))
