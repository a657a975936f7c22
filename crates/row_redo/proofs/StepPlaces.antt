-- Which version stands at a place of a block after a step in it.
use Rattle.std.proofs.Common.{◌≡◌, ◌≢◌, ℕ, Bool, true, false, List, [], ◌∷◌, Some, option_map, refl, ap, ◌∙◌, arith, if◌then◌else◌}
use Rattle.std.proofs.lemmas.Bool.Decides.{nat_tests}
use Rattle.row_model.specs.Versions.{Version, version_born, is_at, version_at, changed_at}

-- a version that is born stands at its place
pub born-here : (block line : ℕ) (tuple : List ℕ) (vs : List Version) → version_at block line (version_born block line tuple ∷ vs) ≡ Some (version_born block line tuple)
unfolding version_at
born-here block line tuple vs =
    let h : is_at block line (version_born block line tuple) ≡ true = grind (arith, nat_tests) in
    rw h refl

pub born-other :
    (block line place : ℕ) (tuple : List ℕ) (vs : List Version) → place ≢ line
    → version_at block place (version_born block line tuple ∷ vs) ≡ version_at block place vs
unfolding version_at
born-other block line place tuple vs n =
    let h : is_at block place (version_born block line tuple) ≡ false = grind (arith, nat_tests) in
    rw h refl

-- a change of the versions at a place, which keeps their places
module _ (block line : ℕ) (f : Version → Version) (keeps : (place : ℕ) (v : Version) → is_at block place (f v) ≡ is_at block place v) where
  abbrev first_changed : Bool → Version → List Version → List Version
  first_changed b v rest = (if b then f v else v) ∷ rest

  here-next :
      (v : Version) (vs rest : List Version) (b : Bool) → is_at block line v ≡ b
      → version_at block line rest ≡ option_map f (version_at block line vs)
      → version_at block line (first_changed b v rest) ≡ option_map f (version_at block line (v ∷ vs))
  unfolding version_at
  here-next v vs rest true e same = let h : is_at block line (f v) ≡ true = keeps line v ∙ e in rw (h, e) refl
  here-next v vs rest false e same = rw e same

  pub changed-here : (vs : List Version) → version_at block line (changed_at block line f vs) ≡ option_map f (version_at block line vs)
  unfolding version_at changed_at
  changed-here [] = refl
  changed-here (v ∷ vs) = here-next v vs (changed_at block line f vs) (is_at block line v) refl (changed-here vs)

  other-next :
      (place : ℕ) (v : Version) (vs rest : List Version) (b : Bool) → place ≢ line → is_at block line v ≡ b
      → version_at block place rest ≡ version_at block place vs
      → version_at block place (first_changed b v rest) ≡ version_at block place (v ∷ vs)
  unfolding version_at
  other-next place v vs rest true n e same =
      let no : is_at block place v ≡ false = grind (arith, nat_tests) in
      let h : is_at block place (f v) ≡ false = keeps place v ∙ no in
      rw (h, no) same
  other-next place v vs rest false n e same = ap (λ o. if is_at block place v then Some v else o) same

  pub changed-other : (place : ℕ) (vs : List Version) → place ≢ line → version_at block place (changed_at block line f vs) ≡ version_at block place vs
  unfolding version_at changed_at
  changed-other place [] n = refl
  changed-other place (v ∷ vs) n =
      other-next place v vs (changed_at block line f vs) (is_at block line v) n refl (changed-other place vs n)
