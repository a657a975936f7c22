-- The version at a place of a list, and how many stand there.
use Rattle.std.proofs.Common.{◌≡◌, ℕ, ◌+◌, ◌≤◌, Bool, true, false, ◌&&◌, cond, eqb, List, [], ◌∷◌, ◌++◌, Option, Some, None, arith, refl, sym, ap, ◌∙◌, inl, inr}
use Rattle.std.specs.List.{filter}
use Rattle.std.proofs.lemmas.Bool.{cases_Bool, cond_both, and_left, and_parts, and_right, and_from, eqb-true, eq-eqb, ne_eqb}
use Rattle.std.proofs.lemmas.List.Sums.{sum_by-cons}
use Rattle.row_model.specs.Versions.{Version, is_at, version_at}
use Rattle.row_model.specs.Shown.{count_at, AreApart}
use Rattle.row_pages.proofs.Each.{Each}

-- a version where it passes a test
abbrev pub kept : (Version → Bool) → Option Version → Option Version
kept test None = None
kept test (Some v) = cond (test v) (Some v) None

-- the first of two, or else the second
abbrev pub first_of_two : Option Version → Option Version → Option Version
first_of_two None b = b
first_of_two (Some v) b = Some v

pub nothing_is_some : (v : Version) → ◌≡◌ {A = Option Version} None (Some v) → ⊥
nothing_is_some v e = cc

pub the_same : (u v : Version) → ◌≡◌ {A = Option Version} (Some u) (Some v) → u ≡ v
the_same u v e = cc

-- the place of a version
pub at_place : (block line : ℕ) (v : Version) → is_at block line v ≡ true → (v.block ≡ block) × (v.line ≡ line)
at_place block line v e =
    let (holds, at) = and_parts v.holds (eqb v.block block && eqb v.line line) e in
    let (b, l) = and_parts (eqb v.block block) (eqb v.line line) at in
    (eqb-true v.block block b, eqb-true v.line line l)

-- it holds it
pub at_holds : (block line : ℕ) (v : Version) → is_at block line v ≡ true → v.holds ≡ true
at_holds block line v e = (and_parts v.holds (eqb v.block block && eqb v.line line) e).0

pub from_place : (block line : ℕ) (v : Version) → v.holds ≡ true → v.block ≡ block → v.line ≡ line → is_at block line v ≡ true
from_place block line v holds b l =
    and_from v.holds (eqb v.block block && eqb v.line line) holds
    (and_from (eqb v.block block) (eqb v.line line) (eq-eqb v.block block b) (eq-eqb v.line line l))

-- not at another line, or in another block
pub off_line : (block line : ℕ) (v : Version) → (v.line ≡ line → ⊥) → is_at block line v ≡ false
off_line block line v other =
    and_right v.holds (eqb v.block block && eqb v.line line)
    (and_right (eqb v.block block) (eqb v.line line) (ne_eqb v.line line other))

pub off_block : (block line : ℕ) (v : Version) → (v.block ≡ block → ⊥) → is_at block line v ≡ false
off_block block line v other =
    and_right v.holds (eqb v.block block && eqb v.line line)
    (and_left (eqb v.block block) (eqb v.line line) (ne_eqb v.block block other))

pub at_head :
    (block line : ℕ) (v : Version) (vs : List Version) → is_at block line v ≡ true → version_at block line (v ∷ vs) ≡ Some v
unfolding version_at
at_head block line v vs e = ap (λ (t : Bool). cond t (Some v) (version_at block line vs)) e

pub at_rest :
    (block line : ℕ) (v : Version) (vs : List Version) → is_at block line v ≡ false
    → version_at block line (v ∷ vs) ≡ version_at block line vs
unfolding version_at
at_rest block line v vs e = ap (λ (t : Bool). cond t (Some v) (version_at block line vs)) e

pub at_none : (block line : ℕ) → version_at block line [] ≡ None
unfolding version_at
at_none block line = refl

pub version_at-append :
    (block line : ℕ) (vs more : List Version)
    → version_at block line (vs ++ more) ≡ first_of_two (version_at block line vs) (version_at block line more)
version_at-append block line [] more =
    ap (λ (o : Option Version). first_of_two o (version_at block line more)) (sym (at_none block line))
version_at-append block line (v ∷ vs) more =
    elim (cases_Bool (is_at block line v)) [
      | inl e ↦
          at_head block line v (vs ++ more) e
          ∙ ap (λ (o : Option Version). first_of_two o (version_at block line more)) (sym (at_head block line v vs e))
      | inr e ↦
          at_rest block line v (vs ++ more) e ∙ version_at-append block line vs more
          ∙ ap (λ (o : Option Version). first_of_two o (version_at block line more)) (sym (at_rest block line v vs e))
    ]

pub none_where :
    (block line : ℕ) (vs : List Version) → Each (λ v. is_at block line v ≡ false) vs → version_at block line vs ≡ None
none_where block line [] all = at_none block line
none_where block line (v ∷ vs) (first, rest) = at_rest block line v vs first ∙ none_where block line vs rest

-- the version that is found at a place stands there
pub found_at :
    (block line : ℕ) (vs : List Version) (v : Version) → version_at block line vs ≡ Some v
    → (v.block ≡ block) × (v.line ≡ line)
found_at block line [] v e = absurd (nothing_is_some v (sym (at_none block line) ∙ e))
found_at block line (u ∷ vs) v e =
    elim (cases_Bool (is_at block line u)) [
      | inl t ↦
          let same : u ≡ v = the_same u v (sym (at_head block line u vs t) ∙ e) in
          let (b, l) = at_place block line u t in
          (ap (λ (w : Version). w.block) (sym same) ∙ b, ap (λ (w : Version). w.line) (sym same) ∙ l)
      | inr t ↦ found_at block line vs v (sym (at_rest block line u vs t) ∙ e)
    ]

-- and holds it
pub found_holds : (block line : ℕ) (vs : List Version) (v : Version) → version_at block line vs ≡ Some v → v.holds ≡ true
found_holds block line [] v e = absurd (nothing_is_some v (sym (at_none block line) ∙ e))
found_holds block line (u ∷ vs) v e =
    elim (cases_Bool (is_at block line u)) [
      | inl t ↦
          let same : u ≡ v = the_same u v (sym (at_head block line u vs t) ∙ e) in
          ap (λ (w : Version). w.holds) (sym same) ∙ at_holds block line u t
      | inr t ↦ found_holds block line vs v (sym (at_rest block line u vs t) ∙ e)
    ]

-- how many stand at a place
pub count_head :
    (block line : ℕ) (v : Version) (vs : List Version) → is_at block line v ≡ true
    → count_at block line (v ∷ vs) ≡ 1 + count_at block line vs
count_head block line v vs e =
    sum_by-cons (λ (u : Version). cond (is_at block line u) 1 0) v vs
    ∙ ap (λ (t : Bool). cond t 1 0 + count_at block line vs) e

pub count_rest :
    (block line : ℕ) (v : Version) (vs : List Version) → is_at block line v ≡ false
    → count_at block line (v ∷ vs) ≡ 0 + count_at block line vs
count_rest block line v vs e =
    sum_by-cons (λ (u : Version). cond (is_at block line u) 1 0) v vs
    ∙ ap (λ (t : Bool). cond t 1 0 + count_at block line vs) e

pub none_counted : (block line : ℕ) (vs : List Version) → count_at block line vs ≡ 0 → version_at block line vs ≡ None
none_counted block line [] e = at_none block line
none_counted block line (v ∷ vs) e =
    elim (cases_Bool (is_at block line v)) [
      | inl t ↦ absurd (omega (arith, count_head block line v vs t))
      | inr t ↦
          at_rest block line v vs t
          ∙ none_counted block line vs (omega (arith, count_rest block line v vs t))
    ]

-- a filter counts no more
pub count-filter :
    (block line : ℕ) (p : Version → Bool) (vs : List Version)
    → count_at block line (filter p vs) ≤ count_at block line vs
count-filter block line p [] = omega arith
count-filter block line p (v ∷ vs) =
    let rest = count-filter block line p vs in
    cond_both (p v) (v ∷ filter p vs) (filter p vs) (λ us. count_at block line us ≤ count_at block line (v ∷ vs))
    (λ e. omega (arith, sum_by-cons (λ (u : Version). cond (is_at block line u) 1 0) v (filter p vs), sum_by-cons (λ (u : Version). cond (is_at block line u) 1 0) v vs))
    (λ e. omega (arith, sum_by-cons (λ (u : Version). cond (is_at block line u) 1 0) v vs))

pub apart-filter : (p : Version → Bool) (vs : List Version) → AreApart vs → AreApart (filter p vs)
apart-filter p vs apart block line = omega (arith, apart block line, count-filter block line p vs)

filtered_head :
    (block line : ℕ) (p : Version → Bool) (v : Version) (vs : List Version) → is_at block line v ≡ true
    → count_at block line vs ≡ 0 → version_at block line (filter p (v ∷ vs)) ≡ kept p (Some v)
filtered_head block line p v vs t none =
    elim (cases_Bool (p v)) [
      | inl e ↦
          ap (λ (b : Bool). version_at block line (cond b (v ∷ filter p vs) (filter p vs))) e
          ∙ at_head block line v (filter p vs) t
          ∙ ap (λ (b : Bool). cond {A = Option Version} b (Some v) None) (sym e)
      | inr e ↦
          ap (λ (b : Bool). version_at block line (cond b (v ∷ filter p vs) (filter p vs))) e
          ∙ none_counted block line (filter p vs) (omega (arith, count-filter block line p vs))
          ∙ ap (λ (b : Bool). cond {A = Option Version} b (Some v) None) (sym e)
    ]

filtered_rest :
    (block line : ℕ) (p : Version → Bool) (v : Version) (vs : List Version) → is_at block line v ≡ false
    → version_at block line (filter p (v ∷ vs)) ≡ version_at block line (filter p vs)
filtered_rest block line p v vs t =
    cond_both (p v) (v ∷ filter p vs) (filter p vs)
    (λ us. version_at block line us ≡ version_at block line (filter p vs)) (λ e. at_rest block line v (filter p vs) t)
    (λ e. refl)

-- what a filter leaves at a place that has at most one
pub version_at-filter :
    (block line : ℕ) (p : Version → Bool) (vs : List Version) → count_at block line vs ≤ 1
    → version_at block line (filter p vs) ≡ kept p (version_at block line vs)
version_at-filter block line p [] once =
    at_none block line ∙ ap (kept p) (sym (at_none block line))
version_at-filter block line p (v ∷ vs) once =
    elim (cases_Bool (is_at block line v)) [
      | inl t ↦
          filtered_head block line p v vs t (omega (arith, count_head block line v vs t))
          ∙ ap (kept p) (sym (at_head block line v vs t))
      | inr t ↦
          filtered_rest block line p v vs t
          ∙ version_at-filter block line p vs (omega (arith, count_rest block line v vs t))
          ∙ ap (kept p) (sym (at_rest block line v vs t))
    ]
