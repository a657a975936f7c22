-- The places of the set: what a write, an insertion or a pass over the low end leaves.
use Rattle.std.proofs.Common.{◌-◌, min, ◌||◌, Some, length-set, ◌≡◌, ◌≢◌, ◌<◌, ◌≤◌, ◌+◌, ℕ, zero, suc, Bool, true, false, not, ◌&&◌, cond, nat_eq, nat_lt, nat_le, refl, sym, ap, ◌∙◌, subst, ◌⊎◌, inl, inr, arith, List, [], ◌∷◌, ◌++◌, length, take, drop, get_or, set}
use Rattle.std.specs.List.Sorted.{IsStrictlyIncreasing}
use Rattle.std.specs.List.{list_all, filter, insert, slice_get}
use Rattle.std.proofs.lemmas.List.Edits.{length-insert}
use Rattle.std.proofs.lemmas.Bool.{both_ways, cases_lt, and_parts, and_from, ltb-true, lt-ltb, leb-true, le-leb, lt-leb, eq-eqb, cases_Bool}
use Rattle.std.proofs.lemmas.List.{length-append, take-append-drop, drop_all, get_or_default, append-nil, take_all, get_or-take, length-take-le}
use Rattle.std.proofs.lemmas.List.Elements.{filter-append}
use Rattle.std.proofs.lemmas.List.Folds.{list_all-append, list_any-append}
use Rattle.std.proofs.Math.Seq.{drop-cons, take-suc, take-suc-set}
use Rattle.known_assigned.specs.declared.running_set.Slot.{Slot}
use Rattle.known_assigned.specs.Ids.{is_among, minus, with_id}
use Rattle.known_assigned.specs.Slots.{AtPlace, InOrder, NoPlace, is_led, is_rising, live_ids}
use Rattle.known_assigned.proofs.Ordered.{list_all-weaker, filter-whole, with_id-past, with_id-front, with_id-there, others-below, others-above, is_among-none}

abbrev pub below : ℕ → Slot → Bool
below x s = nat_lt s.xid x

abbrev pub from : ℕ → Slot → Bool
from x s = nat_le x s.xid

abbrev pub above : ℕ → Slot → Bool
above x s = nat_lt x s.xid

pub live_ids-append : (a b : List Slot) → live_ids (a ++ b) ≡ live_ids a ++ live_ids b
live_ids-append [] b = refl
live_ids-append (s ∷ a) b =
    elim s.live as (λ l. cond l (s.xid ∷ live_ids (a ++ b)) (live_ids (a ++ b)) ≡ cond l (s.xid ∷ live_ids a) (live_ids a) ++ live_ids b)
    [ true ↦ ap (λ l. s.xid ∷ l) (live_ids-append a b) | false ↦ live_ids-append a b ]

-- what holds of each place's id holds of the ids that have not ended
pub list_all-live_ids : (p : ℕ → Bool) (slots : List Slot) → list_all (λ (s : Slot). p s.xid) slots ≡ true → list_all p (live_ids slots) ≡ true
list_all-live_ids p [] h = refl
list_all-live_ids p (s ∷ rest) h =
    let parts = and_parts (p s.xid) (list_all (λ (t : Slot). p t.xid) rest) h in
    elim s.live as (λ l. list_all p (cond l (s.xid ∷ live_ids rest) (live_ids rest)) ≡ true)
    [ true ↦ and_from (p s.xid) (list_all p (live_ids rest)) parts.0 (list_all-live_ids p rest parts.1) | false ↦ list_all-live_ids p rest parts.1 ]

-- a list at a place
pub split_at : (slots : List Slot) (at : ℕ) (d : Slot) → at < length slots → slots ≡ take at slots ++ (get_or slots at d ∷ drop (suc at) slots)
split_at slots at d h = sym (take-append-drop at slots) ∙ ap (λ l. take at slots ++ l) (drop-cons slots at d h)

pub set_split : (slots : List Slot) (at : ℕ) (v : Slot) → at < length slots → set slots at v ≡ take at slots ++ (v ∷ drop (suc at) slots)
set_split [] at v h = absurd (omega arith)
set_split (s ∷ slots) zero v h = refl
set_split (s ∷ slots) (suc at) v h = ap (λ l. s ∷ l) (set_split slots at v (omega arith))

-- the end of rising places rises
pub is_rising-drop : (slots : List Slot) (at : ℕ) → is_rising slots ≡ true → is_rising (drop at slots) ≡ true
is_rising-drop slots zero h = h
is_rising-drop [] (suc at) h = refl
is_rising-drop (s ∷ slots) (suc at) h = is_rising-drop slots at (and_parts (list_all (above s.xid) slots) (is_rising slots) h).1

-- another place with the same id
list_all-same_id : (p : ℕ → Bool) (a b : List Slot) (s v : Slot) → s.xid ≡ v.xid → list_all (λ (t : Slot). p t.xid) (a ++ (s ∷ b)) ≡ true → list_all (λ (t : Slot). p t.xid) (a ++ (v ∷ b)) ≡ true
list_all-same_id p [] b s v e h = subst (λ (i : ℕ). (p i && list_all (λ (t : Slot). p t.xid) b) ≡ true) e h
list_all-same_id p (r ∷ a) b s v e h =
    let parts = and_parts (p r.xid) (list_all (λ (t : Slot). p t.xid) (a ++ (s ∷ b))) h in
    and_from (p r.xid) (list_all (λ (t : Slot). p t.xid) (a ++ (v ∷ b))) parts.0 (list_all-same_id p a b s v e parts.1)

is_rising-same_id : (a b : List Slot) (s v : Slot) → s.xid ≡ v.xid → is_rising (a ++ (s ∷ b)) ≡ true → is_rising (a ++ (v ∷ b)) ≡ true
is_rising-same_id [] b s v e h = subst (λ (i : ℕ). (list_all (λ (t : Slot). nat_lt i t.xid) b && is_rising b) ≡ true) e h
is_rising-same_id (r ∷ a) b s v e h =
    let parts = and_parts (list_all (above r.xid) (a ++ (s ∷ b))) (is_rising (a ++ (s ∷ b))) h in
    and_from (list_all (above r.xid) (a ++ (v ∷ b))) (is_rising (a ++ (v ∷ b))) (list_all-same_id (nat_lt r.xid) a b s v e parts.0) (is_rising-same_id a b s v e parts.1)

-- a new place between those below it and those above
is_rising-between : (a b : List Slot) (v : Slot) → list_all (below v.xid) a ≡ true → list_all (above v.xid) b ≡ true → is_rising (a ++ b) ≡ true → is_rising (a ++ (v ∷ b)) ≡ true
is_rising-between [] b v low high h = and_from (list_all (above v.xid) b) (is_rising b) high h
is_rising-between (r ∷ a) b v low high h =
    let parts = and_parts (list_all (above r.xid) (a ++ b)) (is_rising (a ++ b)) h in
    let lows = and_parts (nat_lt r.xid v.xid) (list_all (below v.xid) a) low in
    let sides = and_parts (list_all (above r.xid) a) (list_all (above r.xid) b) (sym (list_all-append (above r.xid) a b) ∙ parts.0) in
    and_from (list_all (above r.xid) (a ++ (v ∷ b))) (is_rising (a ++ (v ∷ b)))
    (list_all-append (above r.xid) a (v ∷ b)
    ∙ and_from (list_all (above r.xid) a) (nat_lt r.xid v.xid && list_all (above r.xid) b) sides.0
    (and_from (nat_lt r.xid v.xid) (list_all (above r.xid) b) lows.0 sides.1))
    (is_rising-between a b v lows.1 high parts.1)

-- the ids of places below x, above x or other than x
live_below : (x : ℕ) (slots : List Slot) → list_all (below x) slots ≡ true → list_all (λ y. nat_lt y x) (live_ids slots) ≡ true
live_below x = list_all-live_ids (λ y. nat_lt y x)

live_above : (x : ℕ) (slots : List Slot) → list_all (above x) slots ≡ true → list_all (nat_lt x) (live_ids slots) ≡ true
live_above x = list_all-live_ids (nat_lt x)

-- rising places that begin at x or later, and not at x, are all above x
pub above_from : (x : ℕ) (slots : List Slot) → is_rising slots ≡ true → list_all (from x) slots ≡ true → ((s : Slot) (rest : List Slot) → slots ≡ s ∷ rest → s.xid ≢ x) → list_all (above x) slots ≡ true
above_from x [] h low other = refl
above_from x (s ∷ rest) h low other =
    let rises = and_parts (list_all (above s.xid) rest) (is_rising rest) h in
    let lows = and_parts (nat_le x s.xid) (list_all (from x) rest) low in
    let differs : s.xid ≢ x = other s rest refl in
    let higher : x < s.xid = omega (arith, leb-true x s.xid lows.0) in
    and_from (nat_lt x s.xid) (list_all (above x) rest) (lt-ltb x s.xid higher)
    (list_all-weaker (above s.xid) (above x) (λ t k. lt-ltb x t.xid (omega (arith, ltb-true s.xid t.xid k))) rest rises.0)

pub ids_at : (slots : List Slot) (at : ℕ) → live_ids slots ≡ live_ids (take at slots) ++ live_ids (drop at slots)
ids_at slots at = ap live_ids (sym (take-append-drop at slots)) ∙ live_ids-append (take at slots) (drop at slots)

others_at : (slots : List Slot) (at x : ℕ) → NoPlace slots at x → list_all (λ y. not (nat_eq x y)) (live_ids slots) ≡ true
others_at slots at x n =
    ap (list_all (λ y. not (nat_eq x y))) (ids_at slots at)
    ∙ list_all-append (λ y. not (nat_eq x y)) (live_ids (take at slots)) (live_ids (drop at slots))
    ∙ and_from (list_all (λ y. not (nat_eq x y)) (live_ids (take at slots))) (list_all (λ y. not (nat_eq x y)) (live_ids (drop at slots)))
    (others-below x (live_ids (take at slots)) (live_below x (take at slots) n.lower))
    (others-above x (live_ids (drop at slots)) (live_above x (drop at slots) n.higher))

pub minus-no_place : (slots : List Slot) (at x : ℕ) → NoPlace slots at x → minus x (live_ids slots) ≡ live_ids slots
minus-no_place slots at x n = filter-whole (λ y. not (nat_eq x y)) (live_ids slots) (others_at slots at x n)

pub is_among-no_place : (slots : List Slot) (at x : ℕ) → NoPlace slots at x → is_among x (live_ids slots) ≡ false
is_among-no_place slots at x n = is_among-none x (live_ids slots) (others_at slots at x n)

-- a new place
pub live_ids-inserted : (slots : List Slot) (at x : ℕ) → NoPlace slots at x → live_ids (insert slots at (record { xid = x; live = true })) ≡ with_id x (live_ids slots)
live_ids-inserted slots at x n =
    let front = live_ids (take at slots) in
    let back = live_ids (drop at slots) in
    live_ids-append (take at slots) (record { xid = x; live = true } ∷ drop at slots)
    ∙ sym (ap (λ l. front ++ l) (with_id-front x back (live_above x (drop at slots) n.higher)))
    ∙ sym (with_id-past x front back (live_below x (take at slots) n.lower))
    ∙ sym (ap (with_id x) (ids_at slots at))

pub is_rising-inserted : (slots : List Slot) (at x : ℕ) → NoPlace slots at x → is_rising (insert slots at (record { xid = x; live = true })) ≡ true
is_rising-inserted slots at x n =
    is_rising-between (take at slots) (drop at slots) (record { xid = x; live = true }) n.lower n.higher
    (ap is_rising (take-append-drop at slots) ∙ n.rising)

-- what stands where nothing does
abbrev pub no_slot : Slot
no_slot = record { xid = 0; live = false }

-- the places above it
higher_at : (slots : List Slot) (at x : ℕ) → AtPlace slots at x → list_all (above x) (drop (suc at) slots) ≡ true
higher_at slots at x p =
    let rises : is_rising (get_or slots at no_slot ∷ drop (suc at) slots) ≡ true = ap is_rising (sym (drop-cons slots at no_slot p.within)) ∙ is_rising-drop slots at p.rising in
    subst (λ (i : ℕ). list_all (above i) (drop (suc at) slots) ≡ true) p.same (and_parts (list_all (above (get_or slots at no_slot).xid) (drop (suc at) slots)) (is_rising (drop (suc at) slots)) rises).0

ids_around : (slots : List Slot) (at x : ℕ) → AtPlace slots at x → live_ids slots ≡ live_ids (take at slots) ++ live_ids (get_or slots at no_slot ∷ drop (suc at) slots)
ids_around slots at x p = ids_at slots at ∙ ap (λ l. live_ids (take at slots) ++ live_ids l) (drop-cons slots at no_slot p.within)

pub live_ids-revived : (slots : List Slot) (at x : ℕ) (v : Slot) → AtPlace slots at x → v.xid ≡ x → v.live ≡ true → live_ids (set slots at v) ≡ with_id x (live_ids slots)
live_ids-revived slots at x v p same lives =
    let front = live_ids (take at slots) in
    let s = get_or slots at no_slot in
    let back = live_ids (drop (suc at) slots) in
    let there : x ∷ back ≡ with_id x (live_ids (s ∷ drop (suc at) slots)) =
    elim s.live as (λ l. x ∷ back ≡ with_id x (cond l (s.xid ∷ back) back)) [
      | true ↦ sym (with_id-there x s.xid back p.same)
      | false ↦ sym (with_id-front x back (live_above x (drop (suc at) slots) (higher_at slots at x p)))
    ] in
    let written : live_ids (v ∷ drop (suc at) slots) ≡ x ∷ back = rw lives (ap (λ i. i ∷ back) same) in
    ap live_ids (set_split slots at v p.within)
    ∙ live_ids-append (take at slots) (v ∷ drop (suc at) slots)
    ∙ ap (λ l. front ++ l) (written ∙ there)
    ∙ sym (with_id-past x front (live_ids (s ∷ drop (suc at) slots)) (live_below x (take at slots) p.lower))
    ∙ sym (ap (with_id x) (ids_around slots at x p))

pub live_ids-ended : (slots : List Slot) (at x : ℕ) (v : Slot) → AtPlace slots at x → v.live ≡ false → live_ids (set slots at v) ≡ minus x (live_ids slots)
live_ids-ended slots at x v p ends =
    let front = live_ids (take at slots) in
    let s = get_or slots at no_slot in
    let back = live_ids (drop (suc at) slots) in
    let kept : minus x back ≡ back = filter-whole (λ y. not (nat_eq x y)) back (others-above x back (live_above x (drop (suc at) slots) (higher_at slots at x p))) in
    let whole : minus x front ≡ front = filter-whole (λ y. not (nat_eq x y)) front (others-below x front (live_below x (take at slots) p.lower)) in
    let gone : minus x (live_ids (s ∷ drop (suc at) slots)) ≡ back =
    elim s.live as (λ l. minus x (cond l (s.xid ∷ back) back) ≡ back)
    [ true ↦ rw (eq-eqb x s.xid (sym p.same)) kept | false ↦ kept ] in
    let written : live_ids (v ∷ drop (suc at) slots) ≡ back = rw ends refl in
    ap live_ids (set_split slots at v p.within)
    ∙ live_ids-append (take at slots) (v ∷ drop (suc at) slots)
    ∙ ap (λ l. front ++ l) written
    ∙ sym (ap (λ l. front ++ l) gone)
    ∙ sym (ap (λ l. l ++ minus x (live_ids (s ∷ drop (suc at) slots))) whole)
    ∙ sym (filter-append (λ y. not (nat_eq x y)) front (live_ids (s ∷ drop (suc at) slots)))
    ∙ sym (ap (minus x) (ids_around slots at x p))

-- a write that keeps the id keeps the order
pub is_rising-set : (slots : List Slot) (at : ℕ) (d v : Slot) → is_rising slots ≡ true → at < length slots → (get_or slots at d).xid ≡ v.xid → is_rising (set slots at v) ≡ true
is_rising-set slots at d v h within same =
    ap is_rising (set_split slots at v within)
    ∙ is_rising-same_id (take at slots) (drop (suc at) slots) (get_or slots at d) v same (ap is_rising (sym (split_at slots at d within)) ∙ h)

-- one step of the pass over the low end: a place that has ended, or is below oldest, is marked
pub filter-passed : (oldest : ℕ) (slots : List Slot) (at : ℕ) (d v : Slot) → at < length slots → v.live ≡ false → ((get_or slots at d).live ≡ false) ⊎ ((get_or slots at d).xid < oldest)
    → filter (nat_le oldest) (live_ids (set slots at v)) ≡ filter (nat_le oldest) (live_ids slots)
filter-passed oldest slots at d v within ends why =
    let front = live_ids (take at slots) in
    let s = get_or slots at d in
    let back = live_ids (drop (suc at) slots) in
    let written : live_ids (v ∷ drop (suc at) slots) ≡ back = rw ends refl in
    let gone : filter (nat_le oldest) (live_ids (s ∷ drop (suc at) slots)) ≡ filter (nat_le oldest) back =
    elim why [
      | inl dead ↦ rw dead refl
      | inr low ↦ elim s.live as (λ l. filter (nat_le oldest) (cond l (s.xid ∷ back) back) ≡ filter (nat_le oldest) back)
          [ true ↦ rw (lt-leb oldest s.xid low) refl | false ↦ refl ]
    ] in
    ap (λ l. filter (nat_le oldest) (live_ids l)) (set_split slots at v within)
    ∙ ap (filter (nat_le oldest)) (live_ids-append (take at slots) (v ∷ drop (suc at) slots))
    ∙ ap (λ l. filter (nat_le oldest) (front ++ l)) written
    ∙ filter-append (nat_le oldest) front back
    ∙ sym (ap (λ l. filter (nat_le oldest) front ++ l) gone)
    ∙ sym (filter-append (nat_le oldest) front (live_ids (s ∷ drop (suc at) slots)))
    ∙ sym (ap (filter (nat_le oldest)) (ap live_ids (split_at slots at d within) ∙ live_ids-append (take at slots) (s ∷ drop (suc at) slots)))

pub ended-passed : (slots : List Slot) (at : ℕ) (v : Slot) → at < length slots → v.live ≡ false → live_ids (take at slots) ≡ [] → live_ids (take (at + 1) (set slots at v)) ≡ []
ended-passed slots at v within ends ended =
    let next : at + 1 ≡ suc at = omega arith in
    ap (λ n. live_ids (take n (set slots at v))) next
    ∙ ap live_ids (take-suc-set slots at v within)
    ∙ live_ids-append (take at slots) (v ∷ [])
    ∙ ap (λ l. l ++ live_ids (v ∷ [])) ended
    ∙ rw ends refl

-- the pass ends at a place that is live and not below oldest
pub filter-pass_over : (oldest : ℕ) (slots : List Slot) (at : ℕ) (d : Slot) → is_rising slots ≡ true → live_ids (take at slots) ≡ [] → at < length slots → oldest ≤ (get_or slots at d).xid
    → filter (nat_le oldest) (live_ids slots) ≡ live_ids slots
filter-pass_over oldest slots at d h ended within low =
    let s = get_or slots at d in
    let rest = drop (suc at) slots in
    let rises : is_rising (s ∷ rest) ≡ true = ap is_rising (sym (drop-cons slots at d within)) ∙ is_rising-drop slots at h in
    let higher = (and_parts (list_all (above s.xid) rest) (is_rising rest) rises).0 in
    let high : list_all (from oldest) (s ∷ rest) ≡ true =
    and_from (nat_le oldest s.xid) (list_all (from oldest) rest) (le-leb oldest s.xid low)
    (list_all-weaker (above s.xid) (from oldest) (λ t k. le-leb oldest t.xid (omega (arith, ltb-true s.xid t.xid k))) rest higher) in
    let ids : live_ids slots ≡ live_ids (s ∷ rest) =
    ids_at slots at ∙ ap (λ l. l ++ live_ids (drop at slots)) ended ∙ ap live_ids (drop-cons slots at d within) in
    filter-whole (nat_le oldest) (live_ids slots) (ap (list_all (nat_le oldest)) ids ∙ list_all-live_ids (nat_le oldest) (s ∷ rest) high)

-- a pass over all places leaves no id
pub live_ids-all_passed : (slots : List Slot) (at : ℕ) → live_ids (take at slots) ≡ [] → length slots ≤ at → live_ids slots ≡ []
live_ids-all_passed slots at ended h = ids_at slots at ∙ ap (λ l. l ++ live_ids (drop at slots)) ended ∙ ap live_ids (drop_all at slots h)

-- what is left of the places without the marked ones
pub live_ids-kept : (slots : List Slot) → live_ids (filter (λ (s : Slot). s.live) slots) ≡ live_ids slots
live_ids-kept [] = refl
live_ids-kept (s ∷ rest) =
    elim (cases_Bool s.live) [ inl lives ↦ simp (lives, live_ids-kept rest) | inr ended ↦ simp (ended, live_ids-kept rest) ]

list_all-filter : {X : Type 0} (p q : X → Bool) (xs : List X) → list_all p xs ≡ true → list_all p (filter q xs) ≡ true
list_all-filter p q [] h = refl
list_all-filter p q (x ∷ xs) h =
    let parts = and_parts (p x) (list_all p xs) h in
    elim (q x) as (λ b. list_all p (cond b (x ∷ filter q xs) (filter q xs)) ≡ true)
    [ true ↦ and_from (p x) (list_all p (filter q xs)) parts.0 (list_all-filter p q xs parts.1) | false ↦ list_all-filter p q xs parts.1 ]

pub is_rising-kept : (q : Slot → Bool) (slots : List Slot) → is_rising slots ≡ true → is_rising (filter q slots) ≡ true
is_rising-kept q [] h = refl
is_rising-kept q (s ∷ rest) h =
    let parts = and_parts (list_all (above s.xid) rest) (is_rising rest) h in
    elim (q s) as (λ b. is_rising (cond b (s ∷ filter q rest) (filter q rest)) ≡ true) [
      | true ↦ and_from (list_all (above s.xid) (filter q rest)) (is_rising (filter q rest)) (list_all-filter (above s.xid) q rest parts.0) (is_rising-kept q rest parts.1)
      | false ↦ is_rising-kept q rest parts.1
    ]

pub is_led-kept : (slots : List Slot) → is_led (filter (λ (s : Slot). s.live) slots) ≡ true
is_led-kept [] = refl
is_led-kept (s ∷ rest) =
    elim (cases_Bool s.live) [ inl lives ↦ simp lives | inr ended ↦ rw ended (is_led-kept rest) ]

pub length-live_ids : (slots : List Slot) → length (live_ids slots) ≤ length slots
length-live_ids [] = omega arith
length-live_ids (s ∷ rest) =
    elim s.live as (λ l. length (cond l (s.xid ∷ live_ids rest) (live_ids rest)) ≤ length (s ∷ rest))
    [ true ↦ omega (arith, length-live_ids rest) | false ↦ omega (arith, length-live_ids rest) ]

-- a test of all, at one of them
pub list_all-at : {X : Type 0} (p : X → Bool) (xs : List X) (i : ℕ) (d : X) → list_all p xs ≡ true → i < length xs → p (get_or xs i d) ≡ true
list_all-at p [] i d h within = absurd (omega arith)
list_all-at p (x ∷ xs) zero d h within = (and_parts (p x) (list_all p xs) h).0
list_all-at p (x ∷ xs) (suc i) d h within = list_all-at p xs i d (and_parts (p x) (list_all p xs) h).1 (omega arith)

pub list_all-take : {X : Type 0} (p : X → Bool) (xs : List X) (i : ℕ) (h : (k : ℕ) (d : X) → k < i → k < length xs → p (get_or xs k d) ≡ true) → list_all p (take i xs) ≡ true
list_all-take p xs zero h = refl
list_all-take p [] (suc i) h = refl
list_all-take p (x ∷ xs) (suc i) h =
    and_from (p x) (list_all p (take i xs)) (h 0 x (omega arith) (omega arith))
    (list_all-take p xs i (λ k d low within. h (suc k) d (omega arith) (omega arith)))

pub list_all-drop : {X : Type 0} (p : X → Bool) (xs : List X) (i : ℕ) (h : (k : ℕ) (d : X) → i ≤ k → k < length xs → p (get_or xs k d) ≡ true) → list_all p (drop i xs) ≡ true
list_all-drop p [] zero h = refl
list_all-drop p [] (suc i) h = refl
list_all-drop p (x ∷ xs) zero h =
    and_from (p x) (list_all p xs) (h 0 x (omega arith) (omega arith))
    (list_all-drop p xs zero (λ k d low within. h (suc k) d (omega arith) (omega arith)))
list_all-drop p (x ∷ xs) (suc i) h = list_all-drop p xs i (λ k d low within. h (suc k) d (omega arith) (omega arith))

-- rising places do not fall
pub never_falls : (slots : List Slot) → is_rising slots ≡ true → (i j : ℕ) (d : Slot) → i ≤ j → j < length slots → (get_or slots i d).xid ≤ (get_or slots j d).xid
never_falls [] h i j d order within = absurd (omega arith)
never_falls (s ∷ rest) h zero zero d order within = omega arith
never_falls (s ∷ rest) h zero (suc j) d order within =
    let next = list_all-at (above s.xid) rest j d (and_parts (list_all (above s.xid) rest) (is_rising rest) h).0 (omega arith) in
    omega (arith, ltb-true s.xid (get_or rest j d).xid next)
never_falls (s ∷ rest) h (suc i) zero d order within = absurd (omega arith)
never_falls (s ∷ rest) h (suc i) (suc j) d order within =
    never_falls rest (and_parts (list_all (above s.xid) rest) (is_rising rest) h).1 i j d (omega arith) (omega arith)

-- all places are below x where the last is
pub below_all : (x : ℕ) (slots : List Slot) (last : ℕ) (d : Slot) → is_rising slots ≡ true → last < length slots → length slots ≤ last + 1 → (get_or slots last d).xid < x → list_all (below x) (take (length slots) slots) ≡ true
below_all x slots last d h within end low =
    list_all-take (below x) slots (length slots) (λ k e small inside.
    let up = never_falls slots h k last d (omega arith) within in
    let same : get_or slots k e ≡ get_or slots k d = get_or_default slots k e d inside in
    lt-ltb (get_or slots k e).xid x (rw same (omega (arith, up))))

-- nothing but marked places before a place, and so before an earlier one
pub ended-before : (slots : List Slot) (k n : ℕ) → k ≤ n → live_ids (take n slots) ≡ [] → live_ids (take k slots) ≡ []
ended-before slots zero n h ended = refl
ended-before [] (suc k) n h ended = refl
ended-before (s ∷ rest) (suc k) zero h ended = absurd (omega arith)
ended-before (s ∷ rest) (suc k) (suc n) h ended =
    elim (cases_Bool s.live) [
      | inl lives ↦ let full : s.xid ∷ live_ids (take n rest) ≡ [] = sym (rw lives refl) ∙ ended in cc
      | inr ends ↦
          let less : live_ids (take n rest) ≡ [] = sym (rw ends refl) ∙ ended in
          rw ends (ended-before rest k n (omega arith) less)
    ]

-- a list that is the same up to a place is the same before it
take-put : (slots tail : List Slot) (at k : ℕ) → at ≤ length slots → k ≤ at → take k (take at slots ++ tail) ≡ take k slots
take-put slots tail at zero within h = refl
take-put slots tail zero (suc k) within h = absurd (omega arith)
take-put [] tail (suc at) (suc k) within h = absurd (omega arith)
take-put (s ∷ rest) tail (suc at) (suc k) within h = ap (λ l. s ∷ l) (take-put rest tail at k (omega arith) (omega arith))

led-put : (slots tail : List Slot) (at k : ℕ) (v : Slot) → at ≤ length slots → v.live ≡ true → k ≤ at → (k ≡ at) ⊎ (is_led (drop k slots) ≡ true) → is_led (drop k (take at slots ++ (v ∷ tail))) ≡ true
led-put slots tail zero zero v within lives h why = lives
led-put slots tail zero (suc k) v within lives h why = absurd (omega arith)
led-put [] tail (suc at) k v within lives h why = absurd (omega arith)
led-put (s ∷ rest) tail (suc at) zero v within lives h why =
    elim why [ inl e ↦ absurd (omega (arith, e)) | inr led ↦ led ]
led-put (s ∷ rest) tail (suc at) (suc k) v within lives h why =
    led-put rest tail at k v (omega arith) lives (omega arith) (elim why [ inl e ↦ inl (omega (arith, e)) | inr led ↦ inr led ])

-- a live place put in, or over another: the pass over the low end goes back to it
ended-put : (slots tail : List Slot) (at first : ℕ) → at ≤ length slots → InOrder slots first → live_ids (take (min first at) (take at slots ++ tail)) ≡ []
ended-put slots tail at first within o =
    ap live_ids (take-put slots tail at (min first at) within (omega arith)) ∙ ended-before slots (min first at) first (omega arith) o.ended

led-put_first : (slots tail : List Slot) (at first : ℕ) (v : Slot) → at ≤ length slots → v.live ≡ true → InOrder slots first → is_led (drop (min first at) (take at slots ++ (v ∷ tail))) ≡ true
led-put_first slots tail at first v within lives o =
    led-put slots tail at (min first at) v within lives (omega arith)
    (elim (cases_lt at first) [
      | inl h ↦ inl (omega arith)
      | inr h ↦ let e : min first at ≡ first = omega arith in inr (ap (λ k. is_led (drop k slots)) e ∙ o.led)
    ])

pub InOrder-revived : (slots : List Slot) (at x first : ℕ) (v : Slot) → AtPlace slots at x → v.xid ≡ x → v.live ≡ true → InOrder slots first → InOrder (set slots at v) (min first at)
InOrder-revived slots at x first v p same lives o =
    let inside : at ≤ length slots = omega (arith, p.within) in
    let write = set_split slots at v p.within in
    let tail = drop (suc at) slots in
    record {
      rising = is_rising-set slots at no_slot v p.rising p.within (p.same ∙ sym same);
      within = omega (arith, length-set {A = Slot} slots at v, p.within);
      ended = ap (λ l. live_ids (take (min first at) l)) write ∙ ended-put slots (v ∷ tail) at first inside o;
      led = ap (λ l. is_led (drop (min first at) l)) write ∙ led-put_first slots tail at first v inside lives o;
    }

pub InOrder-inserted : (slots : List Slot) (at x first : ℕ) → NoPlace slots at x → InOrder slots first → InOrder (insert slots at (record { xid = x; live = true })) (min first at)
InOrder-inserted slots at x first n o =
    let v : Slot = record { xid = x; live = true } in
    let tail = drop at slots in
    record {
      rising = is_rising-inserted slots at x n;
      within = omega (arith, length-insert slots at v n.within, n.within);
      ended = ended-put slots (v ∷ tail) at first n.within o;
      led = led-put_first slots tail at first v n.within refl o;
    }

-- the places without the marked ones
pub InOrder-kept : (slots : List Slot) (first : ℕ) → InOrder slots first → InOrder (filter (λ (s : Slot). s.live) slots) 0
InOrder-kept slots first o =
    record { rising = is_rising-kept (λ (s : Slot). s.live) slots o.rising; within = omega arith; ended = refl; led = is_led-kept slots }

-- an id is among those that have not ended where its place is live
pub is_among-place : (slots : List Slot) (at x : ℕ) → AtPlace slots at x → is_among x (live_ids slots) ≡ (get_or slots at no_slot).live
is_among-place slots at x p =
    let front = live_ids (take at slots) in
    let s = get_or slots at no_slot in
    let back = live_ids (drop (suc at) slots) in
    let none : is_among x front ≡ false = is_among-none x front (others-below x front (live_below x (take at slots) p.lower)) in
    let behind : is_among x back ≡ false = is_among-none x back (others-above x back (live_above x (drop (suc at) slots) (higher_at slots at x p))) in
    let here : is_among x (live_ids (s ∷ drop (suc at) slots)) ≡ s.live =
    elim s.live as (λ l. is_among x (cond l (s.xid ∷ back) back) ≡ l)
    [ true ↦ rw (eq-eqb s.xid x p.same) refl | false ↦ behind ] in
    ap (is_among x) (ids_around slots at x p)
    ∙ list_any-append (λ y. nat_eq y x) front (live_ids (s ∷ drop (suc at) slots))
    ∙ ap (λ b. b || is_among x (live_ids (s ∷ drop (suc at) slots))) none
    ∙ here

-- the least id is that of the first place
pub least-first : (slots : List Slot) (first : ℕ) → InOrder slots first → first < length slots → slice_get (live_ids slots) 0 ≡ Some (get_or slots first no_slot).xid
least-first slots first o within =
    let s = get_or slots first no_slot in
    let rest = drop (suc first) slots in
    let leads : s.live ≡ true = ap is_led (sym (drop-cons slots first no_slot within)) ∙ o.led in
    let ids : live_ids slots ≡ s.xid ∷ live_ids rest =
    ids_at slots first ∙ ap (λ l. l ++ live_ids (drop first slots)) o.ended ∙ ap live_ids (drop-cons slots first no_slot within) ∙ rw leads refl in
    ap (λ l. slice_get l 0) ids

-- there is a place for the id, or none
pub no_place_from : (slots : List Slot) (at x : ℕ) → is_rising slots ≡ true → at ≤ length slots → list_all (below x) (take at slots) ≡ true → list_all (from x) (drop at slots) ≡ true
    → (at < length slots → (get_or slots at no_slot).xid ≢ x) → NoPlace slots at x
no_place_from slots at x h within lower rest other =
    record {
      rising = h;
      within = within;
      lower = lower;
      higher = above_from x (drop at slots) (is_rising-drop slots at h) rest
          (λ s l e. elim (cases_lt at (length slots)) [
            | inl inside ↦
                let both : get_or slots at no_slot ∷ drop (suc at) slots ≡ s ∷ l = sym (drop-cons slots at no_slot inside) ∙ e in
                let same : get_or slots at no_slot ≡ s = cc in
                subst (λ (t : Slot). t.xid ≢ x) same (other inside)
            | inr past ↦ let none : [] ≡ s ∷ l = sym (drop_all at slots past) ∙ e in cc
          ]);
    }

-- a mark leaves the passed places passed
pub ended-marked : (slots : List Slot) (at n : ℕ) (v : Slot) → v.live ≡ false → live_ids (take n slots) ≡ [] → live_ids (take n (set slots at v)) ≡ []
ended-marked slots at zero v ends ended = refl
ended-marked [] at (suc n) v ends ended = refl
ended-marked (s ∷ rest) zero (suc n) v ends ended =
    elim (cases_Bool s.live) [
      | inl lives ↦ let full : s.xid ∷ live_ids (take n rest) ≡ [] = sym (rw lives refl) ∙ ended in cc
      | inr marked ↦ let less : live_ids (take n rest) ≡ [] = sym (rw marked refl) ∙ ended in rw ends less
    ]
ended-marked (s ∷ rest) (suc at) (suc n) v ends ended =
    elim (cases_Bool s.live) [
      | inl lives ↦ let full : s.xid ∷ live_ids (take n rest) ≡ [] = sym (rw lives refl) ∙ ended in cc
      | inr marked ↦ let less : live_ids (take n rest) ≡ [] = sym (rw marked refl) ∙ ended in rw marked (ended-marked rest at n v ends less)
    ]

-- no id is below 0
pub filter-from_zero : (xs : List ℕ) → filter (nat_le 0) xs ≡ xs
filter-from_zero [] = refl
filter-from_zero (x ∷ xs) = rw (le-leb 0 x (omega arith), filter-from_zero xs) refl

-- no id is above that of the last place
pub live_upto : (slots : List Slot) (last : ℕ) → is_rising slots ≡ true → last < length slots → length slots ≤ last + 1 → list_all (λ x. nat_le x (get_or slots last no_slot).xid) (live_ids slots) ≡ true
live_upto slots last h within end =
    let p = λ (s : Slot). nat_le s.xid (get_or slots last no_slot).xid in
    list_all-live_ids (λ x. nat_le x (get_or slots last no_slot).xid) slots
    (list_all-drop p slots 0 (λ k d low inside.
    let same : get_or slots k d ≡ get_or slots k no_slot = get_or_default slots k d no_slot inside in
    le-leb (get_or slots k d).xid (get_or slots last no_slot).xid (rw same (never_falls slots h k last no_slot (omega arith) within))))

-- the ids that have not ended stand from the first place on
pub live_from_first : (slots : List Slot) (first : ℕ) → live_ids (take first slots) ≡ [] → live_ids (drop first slots) ≡ live_ids slots
live_from_first slots first ended = sym (ids_at slots first ∙ ap (λ l. l ++ live_ids (drop first slots)) ended)

-- a live place is one id more, and an ended one is none
pub live_ids-next : (slots : List Slot) (i : ℕ) → i < length slots → live_ids (drop i slots) ≡ cond (get_or slots i no_slot).live ((get_or slots i no_slot).xid ∷ live_ids (drop (suc i) slots)) (live_ids (drop (suc i) slots))
live_ids-next slots i h = ap live_ids (drop-cons slots i no_slot h)

-- the ids that have not ended rise
pub increasing-front : (x : ℕ) (xs : List ℕ) → list_all (nat_lt x) xs ≡ true → IsStrictlyIncreasing xs → IsStrictlyIncreasing (x ∷ xs)
increasing-front x xs low up zero w = ltb-true x (get_or xs 0 0) (list_all-at (nat_lt x) xs 0 0 low (omega arith))
increasing-front x xs low up (suc k) w =
    let e : suc k + 1 ≡ suc (k + 1) = omega arith in
    subst (λ (j : ℕ). get_or xs k 0 < get_or (x ∷ xs) j 0) (sym e) (up k (omega arith))

pub increasing : (slots : List Slot) → is_rising slots ≡ true → IsStrictlyIncreasing (live_ids slots)
increasing [] h = λ k w. absurd (omega arith)
increasing (s ∷ rest) h =
    let parts = and_parts (list_all (above s.xid) rest) (is_rising rest) h in
    elim s.live as (λ b. IsStrictlyIncreasing (cond b (s.xid ∷ live_ids rest) (live_ids rest))) [
      | true ↦ increasing-front s.xid (live_ids rest) (list_all-live_ids (nat_lt s.xid) rest parts.0) (increasing rest parts.1)
      | false ↦ increasing rest parts.1
    ]

-- rising places and one above the last of them
pub rising-next : (slots : List Slot) (i : ℕ) → 1 ≤ i → i < length slots → is_rising (take i slots) ≡ true → (get_or slots (i - 1) no_slot).xid < (get_or slots i no_slot).xid → is_rising (take (i + 1) slots) ≡ true
rising-next slots i some within h up =
    let front = take i slots in
    let v = get_or slots i no_slot in
    let count : length front ≡ i = length-take-le i slots (omega arith) in
    let last : get_or front (i - 1) no_slot ≡ get_or slots (i - 1) no_slot = get_or-take i slots (i - 1) no_slot (omega arith) in
    let lower : (get_or front (i - 1) no_slot).xid < v.xid = rw last up in
    let low : list_all (below v.xid) (take (length front) front) ≡ true = below_all v.xid front (i - 1) no_slot h (omega arith) (omega arith) lower in
    let low_front : list_all (below v.xid) front ≡ true = ap (list_all (below v.xid)) (sym (take_all (length front) front (omega arith))) ∙ low in
    let next : i + 1 ≡ suc i = omega arith in
    ap (λ n. is_rising (take n slots)) next
    ∙ ap is_rising (take-suc slots i no_slot within)
    ∙ is_rising-between front [] v low_front refl (ap is_rising (append-nil front) ∙ h)

-- how many ids have not ended, after a place is written or put in, and without the marked places
pub length-live_ids_of : (s : Slot) (rest : List Slot) → length (live_ids (s ∷ rest)) ≡ cond s.live 1 0 + length (live_ids rest)
length-live_ids_of s rest =
    elim s.live as (λ l. length (cond l (s.xid ∷ live_ids rest) (live_ids rest)) ≡ cond l 1 0 + length (live_ids rest))
    [ true ↦ omega arith | false ↦ omega arith ]

one-at_most : (b : Bool) → cond b 1 0 ≤ 1
one-at_most true = omega arith
one-at_most false = omega arith

one-of : (b : Bool) → b ≡ true → 1 ≤ cond b 1 0
one-of true e = omega arith
one-of false e = absurd (both_ways false refl e)

length-live_ids_across : (a b : List Slot) (s : Slot) → length (live_ids (a ++ (s ∷ b))) ≡ cond s.live 1 0 + length (live_ids (a ++ b))
length-live_ids_across a b s =
    let left : length (live_ids (a ++ (s ∷ b))) ≡ length (live_ids a) + length (live_ids (s ∷ b)) =
    ap length (live_ids-append a (s ∷ b)) ∙ length-append (live_ids a) (live_ids (s ∷ b)) in
    let right : length (live_ids (a ++ b)) ≡ length (live_ids a) + length (live_ids b) =
    ap length (live_ids-append a b) ∙ length-append (live_ids a) (live_ids b) in
    omega (arith, left, right, length-live_ids_of s b)

pub length-live_ids_set : (slots : List Slot) (at : ℕ) (v : Slot) → at < length slots
    → length (live_ids (set slots at v)) + cond (get_or slots at no_slot).live 1 0 ≡ length (live_ids slots) + cond v.live 1 0
length-live_ids_set slots at v within =
    let a = take at slots in
    let b = drop (suc at) slots in
    let new : length (live_ids (set slots at v)) ≡ cond v.live 1 0 + length (live_ids (a ++ b)) =
    ap (λ l. length (live_ids l)) (set_split slots at v within) ∙ length-live_ids_across a b v in
    let old : length (live_ids slots) ≡ cond (get_or slots at no_slot).live 1 0 + length (live_ids (a ++ b)) =
    ap (λ l. length (live_ids l)) (split_at slots at no_slot within) ∙ length-live_ids_across a b (get_or slots at no_slot) in
    omega (arith, new, old)

-- a mark takes at most one, and a live place takes none
pub few-marked : (slots : List Slot) (at : ℕ) (v : Slot) → at < length slots → length (live_ids slots) ≤ length (live_ids (set slots at v)) + 1
few-marked slots at v within =
    omega (arith, length-live_ids_set slots at v within, one-at_most (get_or slots at no_slot).live)

pub few-revived : (slots : List Slot) (at : ℕ) (v : Slot) → at < length slots → v.live ≡ true → length (live_ids slots) ≤ length (live_ids (set slots at v))
few-revived slots at v within lives =
    omega (arith, length-live_ids_set slots at v within, one-at_most (get_or slots at no_slot).live, one-of v.live lives)

pub length-live_ids_inserted : (slots : List Slot) (at x : ℕ) → length (live_ids (insert slots at (record { xid = x; live = true }))) ≡ 1 + length (live_ids slots)
length-live_ids_inserted slots at x =
    length-live_ids_across (take at slots) (drop at slots) (record { xid = x; live = true })
    ∙ ap (λ l. 1 + length (live_ids l)) (take-append-drop at slots)

pub length-kept : (slots : List Slot) → length (filter (λ (s : Slot). s.live) slots) ≡ length (live_ids slots)
length-kept [] = refl
length-kept (s ∷ rest) =
    elim s.live as (λ l. length (cond l (s ∷ filter (λ (t : Slot). t.live) rest) (filter (λ (t : Slot). t.live) rest)) ≡ length (cond l (s.xid ∷ live_ids rest) (live_ids rest)))
    [ true ↦ ap suc (length-kept rest) | false ↦ length-kept rest ]
