-- Two lists that have the same version at each place, and no place twice, are permutations of each other.
use Rattle.std.proofs.Common.{◌≡◌, ℕ, ◌+◌, true, false, cond, List, [], ◌∷◌, ◌++◌, Some, None, arith, refl, sym, ap, ◌∙◌, subst, inl, inr}
use Rattle.std.specs.List.Sorted.{IsPermutation}
use Rattle.std.proofs.lemmas.Bool.{cases_Bool}
use Rattle.std.proofs.lemmas.List.Sums.{sum_by-append}
use Rattle.std.proofs.lemmas.List.Sorted.{IsPermutation-refl, IsPermutation-sym, IsPermutation-trans, IsPermutation-cons, IsPermutation-middle}
use Rattle.row_model.specs.Versions.{Version, is_at, version_at}
use Rattle.row_model.specs.Shown.{count_at, AreApart}
use Rattle.row_pages.proofs.Each.{Each, Stands, each-without}
use Rattle.row_pages.proofs.Places.{first_of_two, nothing_is_some, the_same, from_place, at_head, at_rest, at_none, version_at-append, none_counted, count_head, count_rest}
use Rattle.row_model.proofs.Shown.{apart_rest}

-- the same version stands at each place
abbrev pub HaveSame : List Version → List Version → Type 0
HaveSame vs us = (block line : ℕ) → version_at block line vs ≡ version_at block line us

-- a list with a version somewhere in it
pub record Holds (v : Version) (vs : List Version) : Type 0 where
  pub before : List Version
  pub after : List Version
  pub is : vs ≡ before ++ v ∷ after

pub holds_found : (block line : ℕ) (vs : List Version) (v : Version) → version_at block line vs ≡ Some v → Holds v vs
holds_found block line [] v e = absurd (nothing_is_some v (sym (at_none block line) ∙ e))
holds_found block line (u ∷ vs) v e =
    elim (cases_Bool (is_at block line u)) [
      | inl t ↦
          let same : u ≡ v = the_same u v (sym (at_head block line u vs t) ∙ e) in
          record { before = []; after = vs; is = ap (λ (w : Version). w ∷ vs) same }
      | inr t ↦
          let h = holds_found block line vs v (sym (at_rest block line u vs t) ∙ e) in
          record { before = u ∷ h.before; after = h.after; is = ap (λ (ws : List Version). u ∷ ws) h.is }
    ]

count-append :
    (block line : ℕ) (vs us : List Version)
    → count_at block line (vs ++ us) ≡ count_at block line vs + count_at block line us
count-append block line vs us = sum_by-append (λ (u : Version). cond (is_at block line u) 1 0) vs us

-- without a version that stands in the middle
apart_without : (v : Version) (us ws : List Version) → AreApart (us ++ v ∷ ws) → AreApart (us ++ ws)
apart_without v us ws apart block line =
    let once = apart block line in
    elim (cases_Bool (is_at block line v)) [
      | inl t ↦
          omega (arith, count-append block line us (v ∷ ws), count-append block line us ws, count_head block line v ws t)
      | inr t ↦
          omega (arith, count-append block line us (v ∷ ws), count-append block line us ws, count_rest block line v ws t)
    ]

none_without :
    (v : Version) (us ws : List Version) (block line : ℕ) → AreApart (us ++ v ∷ ws) → is_at block line v ≡ true
    → version_at block line (us ++ ws) ≡ None
none_without v us ws block line apart t =
    let once = apart block line in
    none_counted block line (us ++ ws)
    (omega (arith, count-append block line us (v ∷ ws), count-append block line us ws, count_head block line v ws t))

elsewhere :
    (v : Version) (us ws : List Version) (block line : ℕ) → is_at block line v ≡ false
    → version_at block line (us ++ v ∷ ws) ≡ version_at block line (us ++ ws)
elsewhere v us ws block line t =
    version_at-append block line us (v ∷ ws)
    ∙ ap (first_of_two (version_at block line us)) (at_rest block line v ws t)
    ∙ sym (version_at-append block line us ws)

none_at_head :
    (v : Version) (vs : List Version) (block line : ℕ) → AreApart (v ∷ vs) → is_at block line v ≡ true
    → version_at block line vs ≡ None
none_at_head v vs block line apart t =
    let once = apart block line in none_counted block line vs (omega (arith, count_head block line v vs t))

same_without :
    (v : Version) (vs us ws : List Version) → AreApart (v ∷ vs) → AreApart (us ++ v ∷ ws)
    → HaveSame (v ∷ vs) (us ++ v ∷ ws) → HaveSame vs (us ++ ws)
same_without v vs us ws apart also same block line =
    elim (cases_Bool (is_at block line v)) [
      | inl t ↦ none_at_head v vs block line apart t ∙ sym (none_without v us ws block line also t)
      | inr t ↦ sym (at_rest block line v vs t) ∙ same block line ∙ elsewhere v us ws block line t
    ]

at_its_place : (v : Version) (vs : List Version) → v.holds ≡ true → version_at v.block v.line (v ∷ vs) ≡ Some v
at_its_place v vs holds = at_head v.block v.line v vs (from_place v.block v.line v holds refl refl)

nothing_left : (us : List Version) → Each Stands us → HaveSame [] us → us ≡ []
nothing_left [] stand same = refl
nothing_left (u ∷ us) (holds, stand) same =
    absurd (nothing_is_some u (sym (at_none u.block u.line) ∙ same u.block u.line ∙ at_its_place u us holds))

pub permuted :
    (vs us : List Version) → Each Stands vs → Each Stands us → AreApart vs → AreApart us → HaveSame vs us → IsPermutation vs us
permuted [] us stand stand_too apart also same =
    subst (λ (ws : List Version). IsPermutation [] ws) (sym (nothing_left us stand_too same)) (IsPermutation-refl [])
permuted (v ∷ vs) us (holds, stand) stand_too apart also same =
    let h = holds_found v.block v.line us v (sym (same v.block v.line) ∙ at_its_place v vs holds) in
    let also' = subst AreApart h.is also in
    let same' = subst (λ (ws : List Version). HaveSame (v ∷ vs) ws) h.is same in
    let rest =
    permuted vs (h.before ++ h.after) stand (each-without Stands h.before v h.after (subst (Each Stands) h.is stand_too)) (apart_rest v vs apart) (apart_without v h.before h.after also')
    (same_without v vs h.before h.after apart also' same') in
    let moved = IsPermutation-sym _ _ (IsPermutation-middle h.before v h.after) in
    subst (λ (ws : List Version). IsPermutation (v ∷ vs) ws) (sym h.is)
    (IsPermutation-trans (v ∷ vs) (v ∷ (h.before ++ h.after)) (h.before ++ v ∷ h.after)
    (IsPermutation-cons v vs (h.before ++ h.after) rest) moved)
