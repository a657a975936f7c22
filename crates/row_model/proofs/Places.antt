-- Lists in place order: one that has the elements of another is that list.
use Rattle.std.proofs.Common.{◌≡◌, List, [], ◌∷◌, zero, suc, arith, refl, sym, subst, ◌∙◌, inl, inr, ◌⊎◌}
use Rattle.std.specs.List.{Contains}
use Rattle.std.specs.List.Sorted.{IsPermutation}
use Rattle.std.proofs.lemmas.List.Sorted.{Contains-permutation, IsPermutation-sym, IsPermutation-trans}
use Rattle.row_model.specs.Versions.{Version}
use Rattle.row_model.specs.Rows.{IsBefore, IsBeforeAll, IsInPlaceOrder, OneRows}

-- x is an element, by recursion on the list
abbrev pub Has : {X : Type 0} → List X → X → Type 0
Has [] x = ⊥
Has (y ∷ ys) x = (y ≡ x) ⊎ Has ys x

pub has_from_contains : {X : Type 0} (xs : List X) (x : X) → Contains xs x → Has xs x
has_from_contains [] x (k, below, is) = absurd (omega arith)
has_from_contains (y ∷ ys) x (zero, below, is) = inl is
has_from_contains (y ∷ ys) x (suc k, below, is) = inr (has_from_contains ys x (k, omega arith, is))

pub contains_from_has : {X : Type 0} (xs : List X) (x : X) → Has xs x → Contains xs x
contains_from_has [] x h = absurd h
contains_from_has (y ∷ ys) x (inl e) = (zero, omega arith, e)
contains_from_has (y ∷ ys) x (inr h) = let (k, below, is) = contains_from_has ys x h in (suc k, omega arith, is)

-- the order of places is strict
not_before_itself : (a : Version) → IsBefore a a → ⊥
not_before_itself a (inl less) = omega arith
not_before_itself a (inr (same, less)) = omega arith

not_both_before : (a b : Version) → IsBefore a b → IsBefore b a → ⊥
not_both_before a b (inl p) (inl q) = omega arith
not_both_before a b (inl p) (inr (e, q)) = omega arith
not_both_before a b (inr (e, p)) (inl q) = omega arith
not_both_before a b (inr (e, p)) (inr (f, q)) = omega arith

pub before_each : (a : Version) (rows : List Version) (b : Version) → IsBeforeAll a rows → Has rows b → IsBefore a b
before_each a [] b all h = absurd h
before_each a (c ∷ rows) b (first, rest) (inl e) = subst (λ (v : Version). IsBefore a v) e first
before_each a (c ∷ rows) b (first, rest) (inr h) = before_each a rows b rest h

-- the first of two lists in place order with the same elements
one_first :
    (a b : Version) (rows others : List Version) → IsBeforeAll a rows → IsBeforeAll b others → Has (b ∷ others) a
    → Has (a ∷ rows) b → a ≡ b
one_first a b rows others p q (inl e) h = sym e
one_first a b rows others p q (inr g) (inl e) = e
one_first a b rows others p q (inr g) (inr h) = absurd (not_both_before a b (before_each a rows b p h) (before_each b others a q g))

-- what a list has besides its first, a list with the same first has
rest_has :
    (a b : Version) (rows others : List Version) → IsBeforeAll a rows → a ≡ b
    → ((v : Version) → Has (a ∷ rows) v → Has (b ∷ others) v) → (v : Version) → Has rows v → Has others v
rest_has a b rows others p e all v h =
    elim (all v (inr h)) [
      | inl f ↦ absurd (not_before_itself a (subst (λ (w : Version). IsBefore a w) (sym f ∙ sym e) (before_each a rows v p h)))
      | inr g ↦ g
    ]

pub one_order :
    (rows others : List Version) → IsInPlaceOrder rows → IsInPlaceOrder others
    → ((v : Version) → Has rows v → Has others v) → ((v : Version) → Has others v → Has rows v) → rows ≡ others
one_order [] [] p q f g = refl
one_order [] (b ∷ others) p q f g = absurd (g b (inl refl))
one_order (a ∷ rows) [] p q f g = absurd (f a (inl refl))
one_order (a ∷ rows) (b ∷ others) (p, ps) (q, qs) f g =
    let e = one_first a b rows others p q (f a (inl refl)) (g b (inl refl)) in
    let r = one_order rows others ps qs (rest_has a b rows others p e f) (rest_has b a others rows q (sym e) g) in
    cc

has_permuted : (xs ys : List Version) → IsPermutation xs ys → (v : Version) → Has xs v → Has ys v
has_permuted xs ys p v h = has_from_contains ys v (Contains-permutation xs ys v p (contains_from_has xs v h))

-- a list has one order by place
pub one_permutation :
    (rows others : List Version) → IsPermutation rows others → IsInPlaceOrder rows → IsInPlaceOrder others → rows ≡ others
one_permutation rows others p r s =
    one_order rows others r s (has_permuted rows others p) (has_permuted others rows (IsPermutation-sym rows others p))

pub one_rows_holds : OneRows
one_rows_holds made committed vs rows others a b =
    one_permutation rows others (IsPermutation-trans rows _ others (IsPermutation-sym _ rows a.same) b.same) a.in_order b.in_order
