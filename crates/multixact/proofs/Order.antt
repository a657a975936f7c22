-- Entries in rising order of the id: cut at an id, and what the ids stand for.
use Rattle.std.proofs.Common.{◌≡◌, ◌≢◌, ℕ, ◌<◌, ◌≤◌, Bool, true, false, cond, eqb, ltb, List, [], ◌∷◌, ◌++◌, length, get_or, take, drop, zero, suc, set, Option, Some, None, refl, sym, ap, subst, ◌∙◌, arith, drop-cons, take-append-drop, length-drop, add-zero}
use Rattle.std.proofs.Math.Path.{fun_ext}
use Rattle.std.proofs.lemmas.List.{get_or-drop, get_or_read, set_split}
use Rattle.std.specs.List.{insert, AllWithin}
use Rattle.std.proofs.lemmas.Bool.{cond-true, cond-false, ltb-true, ltb-false, eq-eqb, eqb-true, ne_eqb}
use Rattle.pg_types.specs.declared.names.Xid.{Xid}
use Rattle.multixact.specs.declared.entries.Entry.{Entry}
use Rattle.multixact.specs.Made.{Made, with_updater}
use Rattle.multixact.specs.Entries.{made_in, IdsBelow, IdsFrom, IdsAbove, InOrder, IsFound, IsAbsent}

IdsFrom-lower : (x y : ℕ) (es : List Entry) → y ≤ x → IdsFrom x es → IdsFrom y es
IdsFrom-lower x y [] low h = tt
IdsFrom-lower x y (e ∷ es) low h = (omega (arith, h.0), IdsFrom-lower x y es low h.1)

IdsFrom-at : (x : ℕ) (es : List Entry) (j : ℕ) (d : Entry) → IdsFrom x es → j < length es → x ≤ (get_or es j d).id
IdsFrom-at x [] j d h within = absurd (omega arith)
IdsFrom-at x (e ∷ es) zero d h within = h.0
IdsFrom-at x (e ∷ es) (suc j) d h within = IdsFrom-at x es j d h.1 (omega arith)

-- the ids do not fall
pub rises : (es : List Entry) → InOrder es → (i j : ℕ) (d : Entry) → i ≤ j → j < length es → (get_or es i d).id ≤ (get_or es j d).id
rises [] h i j d le within = absurd (omega arith)
rises (e ∷ es) h zero zero d le within = omega arith
rises (e ∷ es) h zero (suc j) d le within = omega (arith, IdsFrom-at (suc e.id) es j d h.0 (omega arith))
rises (e ∷ es) h (suc i) zero d le within = absurd (omega arith)
rises (e ∷ es) h (suc i) (suc j) d le within = rises es h.1 i j d (omega arith) (omega arith)

-- where the last id is below x, all are
IdsBelow-from : (x : ℕ) (es : List Entry) → ((i : ℕ) (d : Entry) → i < length es → (get_or es i d).id < x) → IdsBelow x es
IdsBelow-from x [] h = tt
IdsBelow-from x (e ∷ es) h = (h 0 e (omega arith), IdsBelow-from x es (λ i d within. h (suc i) d (omega arith)))

pub all_below : (es : List Entry) (x n : ℕ) (e : Entry) → InOrder es → e ≡ get_or es n e → suc n ≡ length es → e.id < x → IdsBelow x es
all_below es x n e order read long low =
    IdsBelow-from x es
    (λ i d within. omega (arith, rises es order i n d (omega arith) (omega arith), ap (λ (q : Entry). q.id) (get_or_read es n e (omega arith) read d)))

-- a partition point of the test "below x" cuts the entries there
pub cut_below : (x : ℕ) (es : List Entry) (k : ℕ) → AllWithin (λ (e : Entry). ltb e.id x ≡ true) es 0 k → IdsBelow x (take k es)
cut_below x [] zero front = tt
cut_below x [] (suc k) front = tt
cut_below x (e ∷ es) zero front = tt
cut_below x (e ∷ es) (suc k) front =
    (ltb-true e.id x (front 0 e (omega arith) (omega arith)), cut_below x es k (λ i d low high. front (suc i) d (omega arith) (omega arith)))

pub cut_from : (x : ℕ) (es : List Entry) (k : ℕ) → AllWithin (λ (e : Entry). ltb e.id x ≡ false) es k (length es) → IdsFrom x (drop k es)
cut_from x [] zero back = tt
cut_from x [] (suc k) back = tt
cut_from x (e ∷ es) zero back =
    (ltb-false e.id x (back 0 e (omega arith) (omega arith)), cut_from x es zero (λ i d low high. back (suc i) d (omega arith) (omega arith)))
cut_from x (e ∷ es) (suc k) back = cut_from x es k (λ i d low high. back (suc i) d (omega arith) (omega arith))

InOrder-drop : (k : ℕ) (es : List Entry) → InOrder es → InOrder (drop k es)
InOrder-drop zero es h = h
InOrder-drop (suc k) [] h = tt
InOrder-drop (suc k) (e ∷ es) h = InOrder-drop k es h.1

IdsFrom-take : (x k : ℕ) (es : List Entry) → IdsFrom x es → IdsFrom x (take k es)
IdsFrom-take x zero [] h = tt
IdsFrom-take x zero (e ∷ es) h = tt
IdsFrom-take x (suc k) [] h = tt
IdsFrom-take x (suc k) (e ∷ es) h = (h.0, IdsFrom-take x k es h.1)

InOrder-take : (k : ℕ) (es : List Entry) → InOrder es → InOrder (take k es)
InOrder-take zero [] h = tt
InOrder-take zero (e ∷ es) h = tt
InOrder-take (suc k) [] h = tt
InOrder-take (suc k) (e ∷ es) h = (IdsFrom-take (suc e.id) k es h.0, InOrder-take k es h.1)

-- entries from x on of which the first is not x are all above x
above_from : (x : ℕ) (es : List Entry) (d : Entry) → InOrder es → IdsFrom x es → (0 < length es → (get_or es 0 d).id ≡ x → ⊥) → IdsAbove x es
above_from x [] d order low misses = tt
above_from x (e ∷ es) d order low misses =
    let apart : e.id ≢ x = misses (omega arith) in
    (omega (arith, low.0, apart), IdsFrom-lower (suc e.id) (suc x) es (omega (arith, low.0)) order.0)

pub absent_after : (es : List Entry) (x at : ℕ) (d : Entry) → InOrder es → IdsFrom x (drop at es) → (at < length es → (get_or es at d).id ≡ x → ⊥) → IdsAbove x (drop at es)
absent_after es x at d order from misses =
    let rest : List Entry = drop at es in
    let first : get_or rest 0 d ≡ get_or es at d = get_or-drop at es 0 d ∙ ap (λ n. get_or es n d) (add-zero at) in
    above_from x rest d (InOrder-drop at es order) from
    (λ within is. misses (omega (arith, length-drop at es)) (ap (λ (e : Entry). e.id) (sym first) ∙ is))

-- ---- what the ids stand for

-- two tests of which only one holds
swapped : {A : Type 0} (s t : Bool) (x y z : A) → (s ≡ true → t ≡ true → ⊥) → cond s x (cond t y z) ≡ cond t y (cond s x z)
swapped true true x y z apart = absurd (apart refl refl)
swapped true false x y z apart = refl
swapped false true x y z apart = refl
swapped false false x y z apart = refl

twice : {A : Type 0} (t : Bool) (x y z : A) → cond t x (cond t y z) ≡ cond t x z
twice true x y z = refl
twice false x y z = refl

with_apart : (a b : ℕ) (u v : Option Xid) (made : Made) → a < b → with_updater a u (with_updater b v made) ≡ with_updater b v (with_updater a u made)
with_apart a b u v made low =
    fun_ext
    (λ id.
    swapped (eqb id a) (eqb id b) (Some u) (Some v) (made id)
    (λ is_a is_b. absurd (omega (arith, eqb-true id a is_a, eqb-true id b is_b))))

with_again : (a : ℕ) (u v : Option Xid) (made : Made) → with_updater a u (with_updater a v made) ≡ with_updater a u made
with_again a u v made = fun_ext (λ id. twice (eqb id a) (Some u) (Some v) (made id))

-- an entry behind lesser ones counts first
made_in-front : (xs : List Entry) (e : Entry) (ys : List Entry) → IdsBelow e.id xs → made_in (xs ++ e ∷ ys) ≡ with_updater e.id e.updater (made_in (xs ++ ys))
unfolding made_in
made_in-front [] e ys below = refl
made_in-front (q ∷ xs) e ys below =
    ap (with_updater q.id q.updater) (made_in-front xs e ys below.1) ∙ with_apart q.id e.id q.updater e.updater (made_in (xs ++ ys)) below.0

-- the entries, cut at a place where one stands
parted : (es : List Entry) (at : ℕ) (d : Entry) → at < length es → take at es ++ get_or es at d ∷ drop (suc at) es ≡ es
parted es at d within = ap (λ ys. take at es ++ ys) (sym (drop-cons es at d within)) ∙ take-append-drop at es

-- the entry of x tells what x stands for
pub made_in-found : (es : List Entry) (x at : ℕ) (e : Entry) → IsFound es x at → e ≡ get_or es at e → made_in es x ≡ Some e.updater
made_in-found es x at e found read =
    let is : e.id ≡ x = ap (λ (q : Entry). q.id) read ∙ found.id e in
    let whole : take at es ++ e ∷ drop (suc at) es ≡ es = subst (λ (q : Entry). take at es ++ q ∷ drop (suc at) es ≡ es) (sym read) (parted es at e found.within) in
    let below : IdsBelow e.id (take at es) = subst (λ n. IdsBelow n (take at es)) (sym is) found.before in
    ap (λ zs. made_in zs x) (sym whole)
    ∙ ap (λ (m : Made). m x) (made_in-front (take at es) e (drop (suc at) es) below)
    ∙ cond-true (eqb x e.id) (Some e.updater) (made_in (take at es ++ drop (suc at) es) x) (eq-eqb x e.id (sym is))

missed_below : (x : ℕ) (xs ys : List Entry) → IdsBelow x xs → made_in (xs ++ ys) x ≡ made_in ys x
unfolding made_in
missed_below x [] ys h = refl
missed_below x (e ∷ xs) ys h =
    cond-false (eqb x e.id) (Some e.updater) (made_in (xs ++ ys) x) (ne_eqb x e.id (λ is. absurd (omega (arith, h.0)))) ∙ missed_below x xs ys h.1

missed_above : (x : ℕ) (ys : List Entry) → IdsAbove x ys → made_in ys x ≡ None
unfolding made_in
missed_above x [] h = refl
missed_above x (e ∷ ys) h =
    cond-false (eqb x e.id) (Some e.updater) (made_in ys x) (ne_eqb x e.id (λ is. absurd (omega (arith, h.0)))) ∙ missed_above x ys h.1

-- without an entry it was not made
pub made_in-absent : (es : List Entry) (x at : ℕ) → IsAbsent es x at → made_in es x ≡ None
made_in-absent es x at absent =
    ap (λ zs. made_in zs x) (sym (take-append-drop at es)) ∙ missed_below x (take at es) (drop at es) absent.before ∙ missed_above x (drop at es) absent.after

-- an entry at its place, and put between those before and after it
pub made_in-set : (es : List Entry) (e : Entry) (at : ℕ) → IsFound es e.id at → made_in (set es at e) ≡ with_updater e.id e.updater (made_in es)
made_in-set es e at found =
    let q : Entry = get_or es at e in
    let xs : List Entry = take at es in
    let ys : List Entry = drop (suc at) es in
    let is : q.id ≡ e.id = found.id e in
    let below : IdsBelow q.id xs = subst (λ n. IdsBelow n xs) (sym is) found.before in
    let old : made_in es ≡ with_updater q.id q.updater (made_in (xs ++ ys)) = ap made_in (sym (parted es at e found.within)) ∙ made_in-front xs q ys below in
    let named : with_updater q.id q.updater (made_in (xs ++ ys)) ≡ with_updater e.id q.updater (made_in (xs ++ ys)) = ap (λ n. with_updater n q.updater (made_in (xs ++ ys))) is in
    ap made_in (set_split es at e found.within)
    ∙ made_in-front xs e ys found.before
    ∙ sym (with_again e.id e.updater q.updater (made_in (xs ++ ys)))
    ∙ ap (with_updater e.id e.updater) (sym (old ∙ named))

pub made_in-insert : (es : List Entry) (e : Entry) (at : ℕ) → IsAbsent es e.id at → made_in (insert es at e) ≡ with_updater e.id e.updater (made_in es)
made_in-insert es e at absent =
    made_in-front (take at es) e (drop at es) absent.before ∙ ap (λ zs. with_updater e.id e.updater (made_in zs)) (take-append-drop at es)

-- and they stay in order
IdsFrom-join : (x : ℕ) (xs : List Entry) (e : Entry) (ys : List Entry) → IdsFrom x xs → x ≤ e.id → IdsFrom x ys → IdsFrom x (xs ++ e ∷ ys)
IdsFrom-join x [] e ys front low back = (low, back)
IdsFrom-join x (q ∷ xs) e ys front low back = (front.0, IdsFrom-join x xs e ys front.1 low back)

InOrder-join : (xs : List Entry) (e : Entry) (ys : List Entry) → InOrder xs → IdsBelow e.id xs → IdsAbove e.id ys → InOrder ys → InOrder (xs ++ e ∷ ys)
InOrder-join [] e ys front below above back = (above, back)
InOrder-join (q ∷ xs) e ys front below above back =
    (IdsFrom-join (suc q.id) xs e ys front.0 (omega (arith, below.0)) (IdsFrom-lower (suc e.id) (suc q.id) ys (omega (arith, below.0)) above), InOrder-join xs e ys front.1 below.1 above back)

pub InOrder-set : (es : List Entry) (e : Entry) (at : ℕ) → InOrder es → IsFound es e.id at → InOrder (set es at e)
InOrder-set es e at order found =
    let xs : List Entry = take at es in
    let ys : List Entry = drop (suc at) es in
    let kept : InOrder (get_or es at e ∷ ys) = subst InOrder (drop-cons es at e found.within) (InOrder-drop at es order) in
    let above : IdsAbove e.id ys = subst (λ n. IdsAbove n ys) (found.id e) kept.0 in
    subst InOrder (sym (set_split es at e found.within)) (InOrder-join xs e ys (InOrder-take at es order) found.before above kept.1)

pub InOrder-insert : (es : List Entry) (e : Entry) (at : ℕ) → InOrder es → IsAbsent es e.id at → InOrder (insert es at e)
InOrder-insert es e at order absent =
    InOrder-join (take at es) e (drop at es) (InOrder-take at es order) absent.before absent.after (InOrder-drop at es order)
