-- Places in order of their ids, of which each id is kept once.
use Rattle.std.proofs.Common.{◌≡◌, ◌≤◌, ◌<◌, ◌+◌, ℕ, zero, suc, Bool, true, false, ◌&&◌, ◌||◌, cond, nat_eq, nat_lt, nat_le, refl, sym, ap, ◌∙◌, subst, inl, inr, arith, List, [], ◌∷◌, length, get_or}
use Rattle.std.specs.List.{dedup, dedup_from, list_all}
use Rattle.std.specs.List.Sorted.{IsNonDecreasingBy, IsPermutation}
use Rattle.std.proofs.lemmas.Bool.{and_parts, and_from, leb-true, le-leb, lt-ltb, eqb-true, eqb-false, cases_Bool}
use Rattle.known_assigned.specs.declared.running_set.Slot.{Slot}
use Rattle.known_assigned.specs.Ids.{is_among, with_ids}
use Rattle.known_assigned.specs.Slots.{is_rising, live_ids}
use Rattle.known_assigned.proofs.Ordered.{list_all-weaker, or_twice}
use Rattle.known_assigned.proofs.Slotted.{above, from, length-live_ids, length-live_ids_of}
use Rattle.known_assigned.proofs.Sets.{is_among-sorted, live_ids-from}

-- places with one id
abbrev pub same_id : Slot → Slot → Bool
same_id s t = nat_eq s.xid t.xid

abbrev pub is_live : Slot → Bool
is_live s = s.live

-- whether none is below the one before, and the first not below this id
abbrev pub climbs : ℕ → List Slot → Bool
climbs low [] = true
climbs low (s ∷ rest) = nat_le low s.xid && climbs s.xid rest

climbs-sorted : (low : ℕ) (slots : List Slot) → IsNonDecreasingBy (λ (s : Slot). s.xid) slots
    → ((d : Slot) → 0 < length slots → low ≤ (get_or slots 0 d).xid) → climbs low slots ≡ true
climbs-sorted low [] up first = refl
climbs-sorted low (s ∷ rest) up first =
    and_from (nat_le low s.xid) (climbs s.xid rest) (le-leb low s.xid (first s (omega arith)))
    (climbs-sorted s.xid rest (λ i j d order within. up (suc i) (suc j) d (omega arith) (omega arith)) (λ d some. up zero (suc zero) d (omega arith) (omega arith)))

-- none of those that are kept is below the first
from-deduped : (low : ℕ) (kept : Slot) (rest : List Slot) → low ≤ kept.xid → climbs kept.xid rest ≡ true → list_all (from low) (dedup_from same_id kept rest) ≡ true
from-deduped low kept [] first up = and_from (nat_le low kept.xid) true (le-leb low kept.xid first) refl
from-deduped low kept (s ∷ rest) first up =
    let parts = and_parts (nat_le kept.xid s.xid) (climbs s.xid rest) up in
    elim (cases_Bool (nat_eq s.xid kept.xid)) [
      | inl same ↦ rw same (from-deduped low kept rest first (subst (λ (i : ℕ). climbs i rest ≡ true) (eqb-true s.xid kept.xid same) parts.1))
      | inr other ↦
          rw other
          (and_from (nat_le low kept.xid) (list_all (from low) (dedup_from same_id s rest)) (le-leb low kept.xid first)
          (from-deduped low s rest (omega (arith, leb-true kept.xid s.xid parts.0)) parts.1))
    ]

rising-deduped_from : (kept : Slot) (rest : List Slot) → climbs kept.xid rest ≡ true → is_rising (dedup_from same_id kept rest) ≡ true
rising-deduped_from kept [] up = refl
rising-deduped_from kept (s ∷ rest) up =
    let parts = and_parts (nat_le kept.xid s.xid) (climbs s.xid rest) up in
    elim (cases_Bool (nat_eq s.xid kept.xid)) [
      | inl same ↦ rw same (rising-deduped_from kept rest (subst (λ (i : ℕ). climbs i rest ≡ true) (eqb-true s.xid kept.xid same) parts.1))
      | inr other ↦
          let higher : kept.xid + 1 ≤ s.xid = omega (arith, leb-true kept.xid s.xid parts.0, eqb-false s.xid kept.xid other) in
          let behind : list_all (above kept.xid) (dedup_from same_id s rest) ≡ true =
          list_all-weaker (from (kept.xid + 1)) (above kept.xid) (λ t k. lt-ltb kept.xid t.xid (omega (arith, leb-true (kept.xid + 1) t.xid k))) (dedup_from same_id s rest)
          (from-deduped (kept.xid + 1) s rest higher parts.1) in
          rw other (and_from (list_all (above kept.xid) (dedup_from same_id s rest)) (is_rising (dedup_from same_id s rest)) behind (rising-deduped_from s rest parts.1))
    ]

-- places in order, each id once, rise
pub rising-deduped : (slots : List Slot) → IsNonDecreasingBy (λ (s : Slot). s.xid) slots → is_rising (dedup same_id slots) ≡ true
rising-deduped [] up = refl
rising-deduped (s ∷ rest) up =
    rising-deduped_from s rest
    (climbs-sorted s.xid rest (λ i j d order within. up (suc i) (suc j) d (omega arith) (omega arith)) (λ d some. up zero (suc zero) d (omega arith) (omega arith)))

-- as many places as ids that have not ended: all are live
pub all-live : (slots : List Slot) → length slots ≤ length (live_ids slots) → list_all is_live slots ≡ true
all-live [] h = refl
all-live (s ∷ rest) h =
    let few = length-live_ids rest in
    let count = length-live_ids_of s rest in
    elim (cases_Bool s.live) [
      | inl live ↦ and_from s.live (list_all is_live rest) live (all-live rest (live_rest s.live count h))
      | inr dead ↦ absurd (none_dead (ap (λ b. cond b 1 0) dead) count h few)
    ]
  where
    live_rest : (b : Bool) → length (live_ids (s ∷ rest)) ≡ cond b 1 0 + length (live_ids rest) → suc (length rest) ≤ length (live_ids (s ∷ rest)) → length rest ≤ length (live_ids rest)
    live_rest true c k = omega (arith, c, k)
    live_rest false c k = omega (arith, c, k)

    none_dead : {n : ℕ} → n ≡ 0 → length (live_ids (s ∷ rest)) ≡ n + length (live_ids rest) → suc (length rest) ≤ length (live_ids (s ∷ rest)) → length (live_ids rest) ≤ length rest → ⊥
    none_dead e c k f = omega (arith, e, c, k, f)

live-deduped_from : (kept : Slot) (rest : List Slot) → kept.live ≡ true → list_all is_live rest ≡ true → list_all is_live (dedup_from same_id kept rest) ≡ true
live-deduped_from kept [] live all = and_from kept.live true live refl
live-deduped_from kept (s ∷ rest) live all =
    let parts = and_parts s.live (list_all is_live rest) all in
    elim (cases_Bool (nat_eq s.xid kept.xid)) [
      | inl same ↦ rw same (live-deduped_from kept rest live parts.1)
      | inr other ↦ rw other (and_from kept.live (list_all is_live (dedup_from same_id s rest)) live (live-deduped_from s rest parts.0 parts.1))
    ]

length-all_live : (slots : List Slot) → list_all is_live slots ≡ true → length slots ≤ length (live_ids slots)
length-all_live [] all = omega arith
length-all_live (s ∷ rest) all =
    let parts = and_parts s.live (list_all is_live rest) all in
    let one : ◌≡◌ {A = ℕ} (cond s.live 1 0) 1 = ap (λ b. cond b 1 0) parts.0 in
    omega (arith, length-live_ids_of s rest, length-all_live rest parts.1, one)

-- of live places all that are kept are live
pub live-deduped : (slots : List Slot) → length slots ≤ length (live_ids slots) → length (dedup same_id slots) ≤ length (live_ids (dedup same_id slots))
live-deduped [] h = h
live-deduped (s ∷ rest) h =
    let parts = and_parts s.live (list_all is_live rest) (all-live (s ∷ rest) h) in
    length-all_live (dedup_from same_id s rest) (live-deduped_from s rest parts.0 parts.1)

is_among-deduped_from : (y : ℕ) (kept : Slot) (rest : List Slot) → kept.live ≡ true → list_all is_live rest ≡ true
    → is_among y (live_ids (dedup_from same_id kept rest)) ≡ (nat_eq kept.xid y || is_among y (live_ids rest))
is_among-deduped_from y kept [] live all = rw live refl
is_among-deduped_from y kept (s ∷ rest) live all =
    let parts = and_parts s.live (list_all is_live rest) all in
    let there : is_among y (live_ids (s ∷ rest)) ≡ (nat_eq s.xid y || is_among y (live_ids rest)) = rw parts.0 refl in
    elim (cases_Bool (nat_eq s.xid kept.xid)) [
      | inl same ↦
          let one : (nat_eq s.xid y || is_among y (live_ids rest)) ≡ (nat_eq kept.xid y || is_among y (live_ids rest)) = ap (λ (i : ℕ). nat_eq i y || is_among y (live_ids rest)) (eqb-true s.xid kept.xid same) in
          let left : is_among y (live_ids (dedup_from same_id kept (s ∷ rest))) ≡ (nat_eq kept.xid y || is_among y (live_ids rest)) = rw same (is_among-deduped_from y kept rest live parts.1) in
          left ∙ or_twice (nat_eq kept.xid y) (is_among y (live_ids rest)) ∙ sym (ap (λ b. nat_eq kept.xid y || b) (there ∙ one))
      | inr other ↦
          let left : is_among y (live_ids (dedup_from same_id kept (s ∷ rest))) ≡ (nat_eq kept.xid y || is_among y (live_ids (dedup_from same_id s rest))) = rw (other, live) refl in
          left ∙ ap (λ b. nat_eq kept.xid y || b) (is_among-deduped_from y s rest parts.0 parts.1 ∙ sym there)
    ]

is_among-deduped : (y : ℕ) (slots : List Slot) → length slots ≤ length (live_ids slots) → is_among y (live_ids (dedup same_id slots)) ≡ is_among y (live_ids slots)
is_among-deduped y [] h = refl
is_among-deduped y (s ∷ rest) h =
    let parts = and_parts s.live (list_all is_live rest) (all-live (s ∷ rest) h) in
    let there : is_among y (live_ids (s ∷ rest)) ≡ (nat_eq s.xid y || is_among y (live_ids rest)) = rw parts.0 refl in
    is_among-deduped_from y s rest parts.0 parts.1 ∙ sym there

-- live places that were put in order, each id once, hold the ids of those before
pub live_ids-deduped : (slots sorted : List Slot) → IsPermutation slots sorted → length sorted ≤ length (live_ids sorted) → IsNonDecreasingBy (λ (s : Slot). s.xid) sorted
    → live_ids (dedup same_id sorted) ≡ with_ids (live_ids slots) []
live_ids-deduped slots sorted moved live up =
    live_ids-from slots (dedup same_id sorted) (rising-deduped sorted up) (λ y. is_among-deduped y sorted live ∙ is_among-sorted y slots sorted moved)
