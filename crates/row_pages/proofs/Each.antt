-- What holds of each version of a list, by recursion on it.
use Rattle.std.proofs.Common.{◌≡◌, Bool, true, false, cond, List, [], ◌∷◌, ◌++◌, refl, ap, ◌∙◌}
use Rattle.std.specs.List.{filter}
use Rattle.row_model.specs.Versions.{Version}

abbrev pub Each : (Version → Type 0) → List Version → Type 0
Each P [] = Unit {0}
Each P (v ∷ vs) = P v × Each P vs

pub each-weaker :
    (P Q : Version → Type 0) (vs : List Version) → ((v : Version) → P v → Q v) → Each P vs → Each Q vs
each-weaker P Q [] f all = tt
each-weaker P Q (v ∷ vs) f (first, rest) = (f v first, each-weaker P Q vs f rest)

pub each-append : (P : Version → Type 0) (vs more : List Version) → Each P vs → Each P more → Each P (vs ++ more)
each-append P [] more all also = also
each-append P (v ∷ vs) more (first, rest) also = (first, each-append P vs more rest also)

-- without one in the middle
pub each-without : (P : Version → Type 0) (vs : List Version) (v : Version) (more : List Version) → Each P (vs ++ v ∷ more) → Each P (vs ++ more)
each-without P [] v more (first, rest) = rest
each-without P (u ∷ vs) v more (first, rest) = (first, each-without P vs v more rest)

-- a version holds its place
abbrev pub Stands : Version → Type 0
Stands v = v.holds ≡ true

-- a filter keeps all, or nothing
pub filter_all : (p : Version → Bool) (vs : List Version) → Each (λ v. p v ≡ true) vs → filter p vs ≡ vs
filter_all p [] all = refl
filter_all p (v ∷ vs) (first, rest) =
    ap (λ (t : Bool). cond t (v ∷ filter p vs) (filter p vs)) first
    ∙ ap (λ (us : List Version). v ∷ us) (filter_all p vs rest)

pub filter_none : (p : Version → Bool) (vs : List Version) → Each (λ v. p v ≡ false) vs → filter p vs ≡ []
filter_none p [] all = refl
filter_none p (v ∷ vs) (first, rest) =
    ap (λ (t : Bool). cond t (v ∷ filter p vs) (filter p vs)) first ∙ filter_none p vs rest
