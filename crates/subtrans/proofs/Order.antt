-- Pairs in rising order of the subtransaction: cut at a subtransaction, and the topmost parents they tell.
use Rattle.std.proofs.Common.{◌≡◌, ◌≢◌, ℕ, ◌<◌, ◌≤◌, Bool, true, false, eqb, leb, ltb, List, [], ◌∷◌, ◌++◌, length, get_or, take, drop, zero, suc, filter, set, refl, sym, ap, subst, ◌∙◌, ⊎_elim, arith, drop-cons, take-append-drop, length-drop, add-zero}
use Rattle.std.proofs.lemmas.List.{get_or-drop, get_or_read, set_split}
use Rattle.std.specs.List.{insert}
use Rattle.std.specs.List.{AllWithin}
use Rattle.std.proofs.lemmas.Bool.{cases_lt, cond-true, cond-false, cond_both, lt-ltb, le-ltb, le-leb, lt-leb, ltb-true, ltb-false, leb-true, eq-eqb, eqb-false, ne_eqb}
use Rattle.subtrans.specs.declared.Pair.{Pair}
use Rattle.subtrans.specs.Parents.{topmost_of, before_sub, after_sub, with_parent, from_sub, SubsAbove, InOrder, IsFound, IsAbsent, FollowsParents}

-- the subtransactions of all pairs are below x
abbrev SubsBelow : ℕ → List Pair → Type 0
SubsBelow x [] = Unit {0}
SubsBelow x (q ∷ qs) = (q.sub < x) × SubsBelow x qs

-- none of them is x
abbrev Misses : ℕ → List Pair → Type 0
Misses x [] = Unit {0}
Misses x (q ∷ qs) = (x ≡ q.sub → ⊥) × Misses x qs

Misses-above : (x y : ℕ) (qs : List Pair) → y ≤ x → SubsAbove x qs → Misses y qs
Misses-above x y [] low h = tt
Misses-above x y (q ∷ qs) low h = (λ e. absurd (omega (arith, h.0)), Misses-above x y qs low h.1)

Misses-below : (x : ℕ) (qs : List Pair) → SubsBelow x qs → Misses x qs
Misses-below x [] h = tt
Misses-below x (q ∷ qs) h = (λ e. absurd (omega (arith, h.0)), Misses-below x qs h.1)

SubsAbove-lower : (x y : ℕ) (qs : List Pair) → y ≤ x → SubsAbove x qs → SubsAbove y qs
SubsAbove-lower x y [] low h = tt
SubsAbove-lower x y (q ∷ qs) low h = (omega (arith, h.0), SubsAbove-lower x y qs low h.1)

-- what no pair names is its own topmost parent
topmost_of-missed : (x : ℕ) (qs : List Pair) → Misses x qs → topmost_of qs x ≡ x
unfolding topmost_of
topmost_of-missed x [] h = refl
topmost_of-missed x (q ∷ qs) h = rw (topmost_of-missed x qs h.1) (cond-false (eqb x q.sub) q.parent x (ne_eqb x q.sub h.0))

topmost_of-append : (xs ys : List Pair) (x : ℕ) → topmost_of (xs ++ ys) x ≡ topmost_of xs (topmost_of ys x)
unfolding topmost_of
topmost_of-append [] ys x = refl
topmost_of-append (q ∷ xs) ys x = rw (topmost_of-append xs ys x) refl

-- what a test keeps of a list that it cuts in two at k
filter_cut : (p q : Pair → Bool) → ((x : Pair) → p x ≡ true → q x ≡ false) → ((x : Pair) → p x ≡ false → q x ≡ true) → (xs : List Pair) (k : ℕ) → AllWithin (λ x. p x ≡ true) xs 0 k → AllWithin (λ x. p x ≡ false) xs k (length xs) → (take k xs ≡ filter p xs) × (drop k xs ≡ filter q xs)
filter_cut p q apart cover [] zero front back = (refl, refl)
filter_cut p q apart cover [] (suc k) front back = (refl, refl)
filter_cut p q apart cover (x ∷ xs) zero front back =
    let no : p x ≡ false = back 0 x (omega arith) (omega arith) in
    let rest = filter_cut p q apart cover xs zero (λ i d low high. absurd (omega arith)) (λ i d low high. back (suc i) d (omega arith) (omega arith)) in
    (rest.0 ∙ sym (cond-false (p x) (x ∷ filter p xs) (filter p xs) no), ap (λ ys. x ∷ ys) rest.1 ∙ sym (cond-true (q x) (x ∷ filter q xs) (filter q xs) (cover x no)))
filter_cut p q apart cover (x ∷ xs) (suc k) front back =
    let yes : p x ≡ true = front 0 x (omega arith) (omega arith) in
    let rest = filter_cut p q apart cover xs k (λ i d low high. front (suc i) d (omega arith) (omega arith)) (λ i d low high. back (suc i) d (omega arith) (omega arith)) in
    (ap (λ ys. x ∷ ys) rest.0 ∙ sym (cond-true (p x) (x ∷ filter p xs) (filter p xs) yes), rest.1 ∙ sym (cond-false (q x) (x ∷ filter q xs) (filter q xs) (apart x yes)))

SubsAbove-at : (x : ℕ) (qs : List Pair) (j : ℕ) (d : Pair) → SubsAbove x qs → j < length qs → x < (get_or qs j d).sub
SubsAbove-at x [] j d h within = absurd (omega arith)
SubsAbove-at x (q ∷ qs) zero d h within = h.0
SubsAbove-at x (q ∷ qs) (suc j) d h within = SubsAbove-at x qs j d h.1 (omega arith)

-- the subtransactions do not fall
pub rises : (qs : List Pair) → InOrder qs → (i j : ℕ) (d : Pair) → i ≤ j → j < length qs → (get_or qs i d).sub ≤ (get_or qs j d).sub
rises [] h i j d le within = absurd (omega arith)
rises (q ∷ qs) h zero zero d le within = omega arith
rises (q ∷ qs) h zero (suc j) d le within = omega (arith, SubsAbove-at q.sub qs j d h.1 (omega arith))
rises (q ∷ qs) h (suc i) zero d le within = absurd (omega arith)
rises (q ∷ qs) h (suc i) (suc j) d le within = rises qs h.2 i j d (omega arith) (omega arith)

-- a partition point of the test "below x" cuts the pairs there
pub cut : (qs : List Pair) (x k : ℕ) → AllWithin (λ (q : Pair). ltb q.sub x ≡ true) qs 0 k → AllWithin (λ (q : Pair). ltb q.sub x ≡ false) qs k (length qs) → (take k qs ≡ before_sub qs x) × (drop k qs ≡ from_sub qs x)
cut qs x k front back =
    filter_cut (λ (q : Pair). ltb q.sub x) (λ (q : Pair). leb x q.sub) (λ q h. lt-leb x q.sub (ltb-true q.sub x h)) (λ q h. le-leb x q.sub (ltb-false q.sub x h)) qs k front back

-- where the last pair is below x, all are, and where the first is from x on, none is below
pub all_below : (qs : List Pair) (x n : ℕ) (q : Pair) → InOrder qs → q ≡ get_or qs n q → suc n ≡ length qs → q.sub < x → AllWithin (λ (p : Pair). ltb p.sub x ≡ true) qs 0 (length qs)
all_below qs x n q order read long low =
    λ i d from within. lt-ltb (get_or qs i d).sub x (omega (arith, rises qs order i n d (omega arith) (omega arith), ap (λ (p : Pair). p.sub) (get_or_read qs n q (omega arith) read d)))

pub none_below : (qs : List Pair) (x : ℕ) (q : Pair) → InOrder qs → q ≡ get_or qs 0 q → x ≤ q.sub → AllWithin (λ (p : Pair). ltb p.sub x ≡ false) qs 0 (length qs)
none_below qs x q order read low =
    λ i d from within. le-ltb (get_or qs i d).sub x (omega (arith, rises qs order 0 i d (omega arith) within, ap (λ (p : Pair). p.sub) (get_or_read qs 0 q (omega arith) read d)))

-- so the cut is at the end, or at the start
pub behind : (qs : List Pair) (x : ℕ) → AllWithin (λ (q : Pair). ltb q.sub x ≡ true) qs 0 (length qs) → (take (length qs) qs ≡ before_sub qs x) × (drop (length qs) qs ≡ from_sub qs x)
behind qs x all = cut qs x (length qs) all (λ i d low high. absurd (omega arith))

pub before : (qs : List Pair) (x : ℕ) → AllWithin (λ (q : Pair). ltb q.sub x ≡ false) qs 0 (length qs) → (take 0 qs ≡ before_sub qs x) × (drop 0 qs ≡ from_sub qs x)
before qs x none = cut qs x 0 (λ i d low high. absurd (omega arith)) none

pub InOrder-drop : (k : ℕ) (qs : List Pair) → InOrder qs → InOrder (drop k qs)
InOrder-drop zero qs h = h
InOrder-drop (suc k) [] h = tt
InOrder-drop (suc k) (q ∷ qs) h = InOrder-drop k qs h.2

-- the pairs above x of those from x on
after_sub-from_sub : (x : ℕ) (qs : List Pair) → after_sub (from_sub qs x) x ≡ after_sub qs x
after_sub-from_sub x [] = refl
after_sub-from_sub x (q ∷ qs) =
    ⊎_elim
    (λ below. rw (lt-leb x q.sub below, le-ltb x q.sub (omega arith)) (after_sub-from_sub x qs))
    (λ from. rw (le-leb x q.sub from, after_sub-from_sub x qs) refl)
    (cases_lt q.sub x)

-- nothing is taken out of pairs above x
after_sub-above : (x : ℕ) (qs : List Pair) → SubsAbove x qs → after_sub qs x ≡ qs
after_sub-above x [] h = refl
after_sub-above x (q ∷ qs) h = rw (lt-ltb x q.sub h.0) (ap (λ ys. q ∷ ys) (after_sub-above x qs h.1))

pub found_after : (qs : List Pair) (x at : ℕ) (d : Pair) → InOrder qs → drop at qs ≡ from_sub qs x → at < length qs → (get_or qs at d).sub ≡ x → drop (suc at) qs ≡ after_sub qs x
found_after qs x at d order from within is =
    let q : Pair = get_or qs at d in
    let r : List Pair = drop (suc at) qs in
    let parts : drop at qs ≡ q ∷ r = drop-cons qs at d within in
    let kept : InOrder (q ∷ r) = subst InOrder parts (InOrder-drop at qs order) in
    let above : SubsAbove x r = SubsAbove-lower q.sub x r (omega arith) kept.1 in
    let head : after_sub (q ∷ r) x ≡ after_sub r x = cond-false (ltb x q.sub) (q ∷ after_sub r x) (after_sub r x) (le-ltb x q.sub (omega arith)) in
    sym (after_sub-above x r above) ∙ sym head ∙ ap (λ ys. after_sub ys x) (sym parts ∙ from) ∙ after_sub-from_sub x qs

SubsFrom : ℕ → List Pair → Type 0
SubsFrom x [] = Unit {0}
SubsFrom x (q ∷ qs) = (x ≤ q.sub) × SubsFrom x qs

SubsFrom-from_sub : (x : ℕ) (qs : List Pair) → SubsFrom x (from_sub qs x)
unfolding SubsFrom
SubsFrom-from_sub x [] = tt
SubsFrom-from_sub x (q ∷ qs) =
    cond_both (leb x q.sub) (q ∷ from_sub qs x) (from_sub qs x) (SubsFrom x) (λ e. (leb-true x q.sub e, SubsFrom-from_sub x qs)) (λ e. SubsFrom-from_sub x qs)

-- in pairs from x on of which the first is not x all are above x
above_from : (x : ℕ) (qs : List Pair) (d : Pair) → InOrder qs → SubsFrom x qs → (0 < length qs → (get_or qs 0 d).sub ≡ x → ⊥) → SubsAbove x qs
unfolding SubsFrom
above_from x [] d order low misses = tt
above_from x (q ∷ qs) d order low misses =
    let apart : q.sub ≢ x = misses (omega arith) in
    (omega (arith, low.0, apart), SubsAbove-lower q.sub x qs low.0 order.1)

pub absent_after : (qs : List Pair) (x at : ℕ) (d : Pair) → InOrder qs → drop at qs ≡ from_sub qs x → (at < length qs → (get_or qs at d).sub ≡ x → ⊥) → drop at qs ≡ after_sub qs x
absent_after qs x at d order from misses =
    let r : List Pair = drop at qs in
    let low : SubsFrom x r = subst (SubsFrom x) (sym from) (SubsFrom-from_sub x qs) in
    let first : get_or r 0 d ≡ get_or qs at d = get_or-drop at qs 0 d ∙ ap (λ n. get_or qs n d) (add-zero at) in
    let above : SubsAbove x r =
    above_from x r d (InOrder-drop at qs order) low (λ within is. misses (omega (arith, length-drop at qs)) (ap (λ (p : Pair). p.sub) (sym first) ∙ is)) in
    sym (after_sub-above x r above) ∙ ap (λ ys. after_sub ys x) from ∙ after_sub-from_sub x qs

-- ---- the topmost parent
SubsBelow-before_sub : (x : ℕ) (qs : List Pair) → SubsBelow x (before_sub qs x)
SubsBelow-before_sub x [] = tt
SubsBelow-before_sub x (q ∷ qs) =
    cond_both (ltb q.sub x) (q ∷ before_sub qs x) (before_sub qs x) (SubsBelow x) (λ e. (ltb-true q.sub x e, SubsBelow-before_sub x qs)) (λ e. SubsBelow-before_sub x qs)

SubsAbove-after_sub : (x : ℕ) (qs : List Pair) → SubsAbove x (after_sub qs x)
SubsAbove-after_sub x [] = tt
SubsAbove-after_sub x (q ∷ qs) =
    cond_both (ltb x q.sub) (q ∷ after_sub qs x) (after_sub qs x) (SubsAbove x) (λ e. (ltb-true x q.sub e, SubsAbove-after_sub x qs)) (λ e. SubsAbove-after_sub x qs)

-- where x has no pair it is its own topmost parent
pub topmost_of-absent : (qs : List Pair) (x at : ℕ) → IsAbsent qs x at → topmost_of qs x ≡ x
topmost_of-absent qs x at absent =
    let front = take at qs in
    let back = drop at qs in
    let below : SubsBelow x front = subst (SubsBelow x) (sym absent.before) (SubsBelow-before_sub x qs) in
    let above : SubsAbove x back = subst (SubsAbove x) (sym absent.after) (SubsAbove-after_sub x qs) in
    ap (λ ys. topmost_of ys x) (sym (take-append-drop at qs)) ∙ topmost_of-append front back x ∙ ap (topmost_of front) (topmost_of-missed x back (Misses-above x x back (omega arith) above)) ∙ topmost_of-missed x front (Misses-below x front below)

-- from a pair's place on, its subtransaction and its parent have one topmost parent
topmost_of-cons : (q : Pair) (qs : List Pair) → q.parent < q.sub → SubsAbove q.sub qs → topmost_of (q ∷ qs) q.sub ≡ topmost_of (q ∷ qs) q.parent
unfolding topmost_of
topmost_of-cons q qs falls above =
    let itself = topmost_of-missed q.sub qs (Misses-above q.sub q.sub qs (omega arith) above) in
    let lower = topmost_of-missed q.parent qs (Misses-above q.sub q.parent qs (omega arith) above) in
    rw (itself, lower) (cond-true (eqb q.sub q.sub) q.parent q.sub (eq-eqb q.sub q.sub refl) ∙ sym (cond-false (eqb q.parent q.sub) q.parent q.parent (ne_eqb q.parent q.sub (λ e. absurd (omega arith)))))

-- where x has a pair, its parent is lower and has the same topmost parent
pub topmost_of-found : (qs : List Pair) (x at : ℕ) (d : Pair) → InOrder qs → IsFound qs x at → ((get_or qs at d).parent < x) × (topmost_of qs x ≡ topmost_of qs (get_or qs at d).parent)
topmost_of-found qs x at d order found =
    let q : Pair = get_or qs at d in
    let r : List Pair = drop (suc at) qs in
    let front = take at qs in
    let parts : drop at qs ≡ q ∷ r = drop-cons qs at d found.within in
    let kept : InOrder (q ∷ r) = subst InOrder parts (InOrder-drop at qs order) in
    let whole : qs ≡ front ++ (q ∷ r) = sym (take-append-drop at qs) ∙ ap (λ ys. front ++ ys) parts in
    let is : q.sub ≡ x = found.sub d in
    let step = topmost_of-cons q r kept.0 kept.1 in
    (omega (arith, kept.0, is), ap (λ ys. topmost_of ys x) whole ∙ topmost_of-append front (q ∷ r) x ∙ ap (λ y. topmost_of front (topmost_of (q ∷ r) y)) (sym is) ∙ ap (topmost_of front) step ∙ sym (topmost_of-append front (q ∷ r) q.parent) ∙ ap (λ ys. topmost_of ys q.parent) (sym whole))

-- ---- one more parent
SubsAbove-filter : (t : Pair → Bool) (x : ℕ) (qs : List Pair) → SubsAbove x qs → SubsAbove x (filter t qs)
SubsAbove-filter t x [] h = tt
SubsAbove-filter t x (q ∷ qs) h =
    cond_both (t q) (q ∷ filter t qs) (filter t qs) (SubsAbove x) (λ e. (h.0, SubsAbove-filter t x qs h.1)) (λ e. SubsAbove-filter t x qs h.1)

InOrder-filter : (t : Pair → Bool) (qs : List Pair) → InOrder qs → InOrder (filter t qs)
InOrder-filter t [] h = tt
InOrder-filter t (q ∷ qs) h =
    cond_both (t q) (q ∷ filter t qs) (filter t qs) InOrder (λ e. (h.0, SubsAbove-filter t q.sub qs h.1, InOrder-filter t qs h.2)) (λ e. InOrder-filter t qs h.2)

SubsAbove-join : (x : ℕ) (xs : List Pair) (p : Pair) (ys : List Pair) → x < p.sub → SubsAbove x xs → SubsAbove p.sub ys → SubsAbove x (xs ++ p ∷ ys)
SubsAbove-join x [] p ys low h above = (low, SubsAbove-lower p.sub x ys (omega arith) above)
SubsAbove-join x (q ∷ xs) p ys low h above = (h.0, SubsAbove-join x xs p ys low h.1 above)

InOrder-join : (xs : List Pair) (p : Pair) (ys : List Pair) → InOrder xs → SubsBelow p.sub xs → p.parent < p.sub → SubsAbove p.sub ys → InOrder ys → InOrder (xs ++ p ∷ ys)
InOrder-join [] p ys h below falls above order = (falls, above, order)
InOrder-join (q ∷ xs) p ys h below falls above order =
    (h.0, SubsAbove-join q.sub xs p ys below.0 h.1 above, InOrder-join xs p ys h.2 below.1 falls above order)

pub InOrder-with_parent : (qs : List Pair) (p : Pair) → InOrder qs → p.parent < p.sub → InOrder (with_parent qs p)
InOrder-with_parent qs p order falls =
    InOrder-join (before_sub qs p.sub) p (after_sub qs p.sub) (InOrder-filter (λ (q : Pair). ltb q.sub p.sub) qs order) (SubsBelow-before_sub p.sub qs) falls (SubsAbove-after_sub p.sub qs) (InOrder-filter (λ (q : Pair). ltb p.sub q.sub) qs order)

-- the pair at its place, and put between those before and after it
pub set-with_parent : (qs : List Pair) (p : Pair) (at : ℕ) → IsFound qs p.sub at → set qs at p ≡ with_parent qs p
set-with_parent qs p at found =
    set_split qs at p found.within ∙ ap (λ ys. ys ++ p ∷ drop (suc at) qs) found.before ∙ ap (λ ys. before_sub qs p.sub ++ p ∷ ys) found.after

pub insert-with_parent : (qs : List Pair) (p : Pair) (at : ℕ) → IsAbsent qs p.sub at → insert qs at p ≡ with_parent qs p
insert-with_parent qs p at absent =
    ap (λ ys. ys ++ p ∷ drop at qs) absent.before ∙ ap (λ ys. before_sub qs p.sub ++ p ∷ ys) absent.after

-- ---- following parents
step_of : (qs : List Pair) → InOrder qs → (k : ℕ) (d : Pair) → k < length qs → topmost_of qs (get_or qs k d).sub ≡ topmost_of qs (get_or qs k d).parent
unfolding topmost_of
step_of [] order k d within = absurd (omega arith)
step_of (q ∷ qs) order zero d within = topmost_of-cons q qs order.0 order.1
step_of (q ∷ qs) order (suc k) d within = rw (step_of qs order.2 k d (omega arith)) refl

topmost_of-misses : (qs : List Pair) → InOrder qs → (x : ℕ) → Misses (topmost_of qs x) qs
unfolding topmost_of
topmost_of-misses [] order x = tt
topmost_of-misses (q ∷ qs) order x =
    let t = topmost_of qs x in
    cond_both (eqb t q.sub) q.parent t (λ y. Misses y (q ∷ qs))
    (λ e. (λ is. absurd (omega (arith, order.0)), Misses-above q.sub q.parent qs (omega (arith, order.0)) order.1))
    (λ e. (eqb-false t q.sub e, topmost_of-misses qs order.2 x))

Misses-at : (x : ℕ) (qs : List Pair) (k : ℕ) (d : Pair) → Misses x qs → k < length qs → (get_or qs k d).sub ≢ x
Misses-at x [] k d h within = absurd (omega arith)
Misses-at x (q ∷ qs) zero d h within = λ e. h.0 (sym e)
Misses-at x (q ∷ qs) (suc k) d h within = Misses-at x qs k d h.1 (omega arith)

Misses-from : (x : ℕ) (qs : List Pair) → ((k : ℕ) (d : Pair) → k < length qs → (get_or qs k d).sub ≢ x) → Misses x qs
Misses-from x [] h = tt
Misses-from x (q ∷ qs) h = (λ e. h 0 q (omega arith) (sym e), Misses-from x qs (λ k d within. h (suc k) d (omega arith)))

pub follows_parents : (qs : List Pair) → InOrder qs → FollowsParents qs
follows_parents qs order = record {
  step = step_of qs order;
  ends = λ k d x within. Misses-at (topmost_of qs x) qs k d (topmost_of-misses qs order x) within;
  itself = λ x h. topmost_of-missed x qs (Misses-from x qs h);
}
