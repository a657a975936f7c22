-- The parents of subtransactions as a list of pairs: which parent is known of an id after each change, and where
-- parents lead.
use Rattle.std.proofs.Common.{◌≡◌, ℕ, ◌<◌, Bool, true, false, ◌==◌, ◌&&◌, ◌||◌, cond, List, [], ◌∷◌, ◌++◌, filter, Option, Some, None, arith, refl, sym, ap, ◌∙◌, inl, inr, ◌⊎◌, subst, nat_lt, nat_le}
use Rattle.std.proofs.lemmas.Bool.{cases_Bool, cases_eq, true≢false, cases_order, cases_lt, cond_both, cond-true, cond-false, eqb-true, eq-eqb, ne_eqb, lt-ltb, le-ltb, le-leb, lt-leb}
use Rattle.known_assigned.specs.Ids.{is_among}
use Rattle.subtrans.specs.declared.Pair.{Pair}
use Rattle.subtrans.specs.Parents.{topmost_of, before_sub, after_sub, with_parent, from_sub}
use Rattle.transaction_model.specs.LegalTransactions.{TransactionOrigin, TransactionOriginRule, AreSubsOf}
use Rattle.transaction_model.specs.StandbyStates.{set_parents}
use Rattle.transaction_model.proofs.IdSets.{among_first, among_later}

-- which parent is known of an id
abbrev pub Parents : Type 0
Parents = ℕ → Option ℕ

abbrev pub parent_in : List Pair → Parents
parent_in [] x = None
parent_in (q ∷ pairs) x = cond (q.sub == x) (Some q.parent) (parent_in pairs x)

-- after an assignment, and after a bound
abbrev pub with_top : ℕ → List ℕ → Parents → Parents
with_top top subs parents x = cond (is_among x subs && nat_lt top x) (Some top) (parents x)

abbrev pub forgotten : ℕ → Parents → Parents
forgotten bound parents x = cond (nat_lt x bound) None (parents x)

-- each pair leads from a subtransaction to its top transaction
abbrev pub AgreeAll : TransactionOrigin → List Pair → Type 0
AgreeAll o [] = Unit {0}
AgreeAll o (q ∷ pairs) = (o.top q.sub ≡ q.parent) × (q.parent < q.sub) × AgreeAll o pairs

-- a filter by the subtransaction
none_either : (t : Bool) → ◌≡◌ {A = Option ℕ} None (cond t None None)
none_either true = refl
none_either false = refl

filter_parent :
    (t : ℕ → Bool) (x : ℕ) (pairs : List Pair)
    → parent_in (filter (λ (q : Pair). t q.sub) pairs) x ≡ cond (t x) (parent_in pairs x) None
filter_parent t x [] = none_either (t x)
filter_parent t x (q ∷ pairs) =
    let kept : List Pair = filter (λ (r : Pair). t r.sub) pairs in
    let rest = filter_parent t x pairs in
    cond_both (t q.sub) (q ∷ kept) kept
    (λ (l : List Pair). parent_in l x ≡ cond (t x) (cond (q.sub == x) (Some q.parent) (parent_in pairs x)) None)
    (λ h.
    elim (cases_Bool (q.sub == x)) [
      | inl e ↦
          let passes : t x ≡ true = subst (λ (y : ℕ). t y ≡ true) (eqb-true q.sub x e) h in
          cond-true (q.sub == x) (Some q.parent) (parent_in kept x) e
          ∙ sym
          (cond-true (t x) (cond (q.sub == x) (Some q.parent) (parent_in pairs x)) None passes
          ∙ cond-true (q.sub == x) (Some q.parent) (parent_in pairs x) e)
      | inr e ↦
          cond-false (q.sub == x) (Some q.parent) (parent_in kept x) e
          ∙ rest
          ∙ ap (λ (v : Option ℕ). cond (t x) v None) (sym (cond-false (q.sub == x) (Some q.parent) (parent_in pairs x) e))
    ])
    (λ h.
    elim (cases_Bool (q.sub == x)) [
      | inl e ↦
          let fails : t x ≡ false = subst (λ (y : ℕ). t y ≡ false) (eqb-true q.sub x e) h in
          rest
          ∙ cond-false (t x) (parent_in pairs x) None fails
          ∙ sym (cond-false (t x) (cond (q.sub == x) (Some q.parent) (parent_in pairs x)) None fails)
      | inr e ↦
          rest ∙ ap (λ (v : Option ℕ). cond (t x) v None) (sym (cond-false (q.sub == x) (Some q.parent) (parent_in pairs x) e))
    ])

abbrev first_parent : Option ℕ → Option ℕ → Option ℕ
first_parent None other = other
first_parent (Some parent) other = Some parent

first_of_cond : (t : Bool) (parent : ℕ) (u v : Option ℕ) → cond t (Some parent) (first_parent u v) ≡ first_parent (cond t (Some parent) u) v
first_of_cond true parent u v = refl
first_of_cond false parent u v = refl

append_parent : (ps qs : List Pair) (x : ℕ) → parent_in (ps ++ qs) x ≡ first_parent (parent_in ps x) (parent_in qs x)
append_parent [] qs x = refl
append_parent (p ∷ ps) qs x =
    ap (λ (v : Option ℕ). cond (p.sub == x) (Some p.parent) v) (append_parent ps qs x)
    ∙ first_of_cond (p.sub == x) p.parent (parent_in ps x) (parent_in qs x)

first_alone : (v : Option ℕ) → first_parent v None ≡ v
first_alone None = refl
first_alone (Some p) = refl

-- by where x stands: below the new pair's subtransaction, at it, or above it
stands_at :
    (s parent x : ℕ) (v : Option ℕ)
    → first_parent (cond (nat_lt x s) v None) (cond (s == x) (Some parent) (cond (nat_lt s x) v None))
    ≡ cond (s == x) (Some parent) v
stands_at s parent x v =
    elim (cases_order s x) [
      | inl e ↦ rw (le-ltb x s (omega arith), eq-eqb s x e) refl
      | inr (inl h) ↦ rw (le-ltb x s (omega arith), ne_eqb s x (λ e. omega arith), lt-ltb s x h) refl
      | inr (inr h) ↦
          rw (lt-ltb x s h, ne_eqb s x (λ e. omega arith), le-ltb s x (omega arith)) (first_alone v)
    ]

with_parent_is :
    (pairs : List Pair) (p : Pair) (x : ℕ) → parent_in (with_parent pairs p) x ≡ cond (p.sub == x) (Some p.parent) (parent_in pairs x)
with_parent_is pairs p x =
    append_parent (before_sub pairs p.sub) (p ∷ after_sub pairs p.sub) x
    ∙ ap (λ (v : Option ℕ). first_parent v (cond (p.sub == x) (Some p.parent) (parent_in (after_sub pairs p.sub) x)))
    (filter_parent (λ (y : ℕ). nat_lt y p.sub) x pairs)
    ∙ ap (λ (v : Option ℕ). first_parent (cond (nat_lt x p.sub) (parent_in pairs x) None) (cond (p.sub == x) (Some p.parent) v))
    (filter_parent (λ (y : ℕ). nat_lt p.sub y) x pairs)
    ∙ stands_at p.sub p.parent x (parent_in pairs x)

-- an assignment
assigned_or :
    (a b c d : Bool) (u v : Option ℕ) → (c ≡ true → d ≡ b) → cond (a && b) u (cond (d && c) u v) ≡ cond ((c || a) && b) u v
assigned_or a b false true u v h = refl
assigned_or a b false false u v h = refl
assigned_or true true true d u v h = refl
assigned_or true false true true u v h = absurd (true≢false (h refl))
assigned_or true false true false u v h = refl
assigned_or false true true true u v h = refl
assigned_or false true true false u v h = absurd (true≢false (sym (h refl)))
assigned_or false false true true u v h = absurd (true≢false (h refl))
assigned_or false false true false u v h = refl

one_assigned :
    (t : Bool) (pairs : List Pair) (s top x : ℕ)
    → parent_in (cond t (with_parent pairs (record { sub = s; parent = top })) pairs) x
    ≡ cond (t && (s == x)) (Some top) (parent_in pairs x)
one_assigned true pairs s top x = with_parent_is pairs (record { sub = s; parent = top }) x
one_assigned false pairs s top x = refl

pub set_parents_is : (top : ℕ) (subs : List ℕ) (pairs : List Pair) (x : ℕ)
    → parent_in (set_parents top subs pairs) x ≡ with_top top subs (parent_in pairs) x
unfolding set_parents
set_parents_is top [] pairs x = refl
set_parents_is top (s ∷ subs) pairs x =
    let next : List Pair = cond (nat_lt top s) (with_parent pairs (record { sub = s; parent = top })) pairs in
    set_parents_is top subs next x
    ∙ ap (λ (v : Option ℕ). cond (is_among x subs && nat_lt top x) (Some top) v) (one_assigned (nat_lt top s) pairs s top x)
    ∙ assigned_or (is_among x subs) (nat_lt top x) (s == x) (nat_lt top s) (Some top) (parent_in pairs x)
    (λ e. ap (λ (y : ℕ). nat_lt top y) (eqb-true s x e))

pub from_sub_is : (pairs : List Pair) (bound x : ℕ) → parent_in (from_sub pairs bound) x ≡ forgotten bound (parent_in pairs) x
from_sub_is pairs bound x =
    filter_parent (λ (y : ℕ). nat_le bound y) x pairs
    ∙ elim (cases_lt x bound) [
      | inl h ↦
          cond-false (nat_le bound x) (parent_in pairs x) None (lt-leb bound x h)
          ∙ sym (cond-true (nat_lt x bound) None (parent_in pairs x) (lt-ltb x bound h))
      | inr h ↦
          cond-true (nat_le bound x) (parent_in pairs x) None (le-leb bound x h)
          ∙ sym (cond-false (nat_lt x bound) None (parent_in pairs x) (le-ltb x bound h))
    ]

-- pairs keep agreeing
agree_filter : (o : TransactionOrigin) (t : Pair → Bool) (pairs : List Pair) → AgreeAll o pairs → AgreeAll o (filter t pairs)
agree_filter o t [] agree = tt
agree_filter o t (q ∷ pairs) (e, f, agree) =
    cond_both (t q) (q ∷ filter t pairs) (filter t pairs) (λ (l : List Pair). AgreeAll o l)
    (λ h. (e, f, agree_filter o t pairs agree)) (λ h. agree_filter o t pairs agree)

agree_append : (o : TransactionOrigin) (ps qs : List Pair) → AgreeAll o ps → AgreeAll o qs → AgreeAll o (ps ++ qs)
agree_append o [] qs a b = b
agree_append o (p ∷ ps) qs (e, f, a) b = (e, f, agree_append o ps qs a b)

agree_with : (o : TransactionOrigin) (pairs : List Pair) (p : Pair) → AgreeAll o pairs → o.top p.sub ≡ p.parent → p.parent < p.sub
    → AgreeAll o (with_parent pairs p)
agree_with o pairs p agree e f =
    agree_append o (before_sub pairs p.sub) (p ∷ after_sub pairs p.sub)
    (agree_filter o (λ (q : Pair). nat_lt q.sub p.sub) pairs agree)
    (e, f, agree_filter o (λ (q : Pair). nat_lt p.sub q.sub) pairs agree)

pub agree_set : (o : TransactionOrigin) (top : ℕ) (subs : List ℕ) (pairs : List Pair) → AreSubsOf o top subs → AgreeAll o pairs
    → AgreeAll o (set_parents top subs pairs)
unfolding set_parents
agree_set o top [] pairs are agree = agree
agree_set o top (s ∷ subs) pairs are agree =
    let (e, f) = are s (among_first s s subs refl) in
    agree_set o top subs (cond (nat_lt top s) (with_parent pairs (record { sub = s; parent = top })) pairs)
    (λ x h. are x (among_later x s subs h))
    (cond_both (nat_lt top s) (with_parent pairs (record { sub = s; parent = top })) pairs (λ (l : List Pair). AgreeAll o l)
    (λ h. agree_with o pairs (record { sub = s; parent = top }) agree e f) (λ h. agree))

pub agree_from : (o : TransactionOrigin) (pairs : List Pair) (bound : ℕ) → AgreeAll o pairs → AgreeAll o (from_sub pairs bound)
agree_from o pairs bound agree = agree_filter o (λ (q : Pair). nat_le bound q.sub) pairs agree

-- the topmost parent is the id itself, whose parent is not known, or its top transaction
top_step :
    (o : TransactionOrigin) (x y : ℕ) (q : Pair) (above : List Pair) → TransactionOriginRule o → o.top q.sub ≡ q.parent → q.parent < q.sub
    → ((y ≡ x) × (parent_in above x ≡ None)) ⊎ (y ≡ o.top x)
    → ((cond (y == q.sub) q.parent y ≡ x) × (cond (q.sub == x) (Some q.parent) (parent_in above x) ≡ None))
    ⊎ (cond (y == q.sub) q.parent y ≡ o.top x)
top_step o x y q above origin e f (inl (same, none)) =
    elim (cases_eq q.sub x) [
      | inl g ↦
          inr
          (cond-true (y == q.sub) q.parent y (eq-eqb y q.sub (same ∙ sym g)) ∙ sym e ∙ ap o.top g)
      | inr g ↦
          inl (
            cond-false (y == q.sub) q.parent y (ne_eqb y q.sub (λ h. g (sym h ∙ same))) ∙ same,
            cond-false (q.sub == x) (Some q.parent) (parent_in above x) (ne_eqb q.sub x g) ∙ none,
          )
    ]
top_step o x y q above origin e f (inr same) =
    let other : y ≡ q.sub → ⊥ =
    λ h.
    let at_top : o.top q.sub ≡ q.sub = subst (λ (z : ℕ). o.top z ≡ z) (sym same ∙ h) (origin.top_of_top x) in omega arith in
    inr (cond-false (y == q.sub) q.parent y (ne_eqb y q.sub other) ∙ same)

pub topmost_is :
    (o : TransactionOrigin) (pairs : List Pair) → TransactionOriginRule o → AgreeAll o pairs → (x : ℕ)
    → ((topmost_of pairs x ≡ x) × (parent_in pairs x ≡ None)) ⊎ (topmost_of pairs x ≡ o.top x)
unfolding topmost_of
topmost_is o [] origin agree x = inl (refl, refl)
topmost_is o (q ∷ above) origin (e, f, agree) x =
    top_step o x (topmost_of above x) q above origin e f (topmost_is o above origin agree x)
