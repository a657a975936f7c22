-- A text is cut at the first place of a byte.
use Rattle.std.proofs.Common.{◌≡◌, ◌≢◌, ℕ, zero, suc, ◌<◌, ◌==◌, Bool, true, false, List, [], ◌∷◌, length, get_or, take, drop, refl, ap, arith, if◌then◌else◌}
use Rattle.std.proofs.lemmas.Bool.{eq-eqb, ne_eqb}
use Rattle.session_text.specs.Lines.{before_first, pieces}

-- a byte that is another one stands before the first piece of what follows it
pub passed : (at b : ℕ) (text first : List ℕ) (others : List (List ℕ)) → b ≢ at → pieces at text ≡ first ∷ others → pieces at (b ∷ text) ≡ (b ∷ first) ∷ others
unfolding pieces
passed at b text first others differs is = rw (ne_eqb b at differs, is) refl

pub met : (at b : ℕ) (text : List ℕ) → b ≡ at → pieces at (b ∷ text) ≡ [] ∷ pieces at text
unfolding pieces
met at b text same = rw (eq-eqb b at same) refl

-- no byte of a text is this one
pub uncut : (at : ℕ) (text : List ℕ) → ((k : ℕ) → k < length text → get_or text k 0 ≢ at) → pieces at text ≡ text ∷ []
unfolding pieces
uncut at [] none = refl
uncut at (b ∷ text) none = passed at b text text [] (none 0 (omega arith)) (uncut at text (λ k inside. none (suc k) (omega (arith, inside))))

pub cut_at : (at : ℕ) (text : List ℕ) (place : ℕ) → place < length text → get_or text place 0 ≡ at
    → ((k : ℕ) → k < place → get_or text k 0 ≢ at) → pieces at text ≡ take place text ∷ pieces at (drop 1 (drop place text))
cut_at at [] place inside is first = absurd (omega (arith, inside))
cut_at at (b ∷ text) zero inside is first = met at b text is
cut_at at (b ∷ text) (suc place) inside is first =
    passed at b text (take place text) (pieces at (drop 1 (drop place text))) (first 0 (omega arith))
    (cut_at at text place (omega (arith, inside)) is (λ k before. first (suc k) (omega (arith, before))))

some_behind : (at b : ℕ) (text : List ℕ) (same : Bool) → ((first : List ℕ) × (others : List (List ℕ)) × (pieces at text ≡ first ∷ others))
    → (first : List ℕ) × (others : List (List ℕ)) × ((if same then [] ∷ pieces at text else before_first b (pieces at text)) ≡ first ∷ others)
some_behind at b text true behind = ([], pieces at text, refl)
some_behind at b text false behind = (b ∷ behind.0, behind.1, ap (before_first b) behind.2)

-- there is always a first piece
pub some_first : (at : ℕ) (text : List ℕ) → (first : List ℕ) × (others : List (List ℕ)) × (pieces at text ≡ first ∷ others)
unfolding pieces
some_first at [] = ([], [], refl)
some_first at (b ∷ text) = some_behind at b text (b == at) (some_first at text)
