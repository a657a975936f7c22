-- A name of a table is UTF-8, or it is none.
use Rattle.std.proofs.Common.{◌≡◌, ℕ, ◌<◌, Bool, true, false, List, [], ◌∷◌, length, refl, arith, if◌then◌else◌}
use Rattle.std.specs.Str.{IsUtf8, is_utf8}
use Rattle.std.proofs.lemmas.Str.{IsUtf8-from_is_utf8, is_utf8-from_IsUtf8}
use Rattle.std.proofs.lemmas.Bool.{false≢true}
use Rattle.session_text.specs.Requests.{Request, Opens, Unreadable, opening}

is_text : (text : Bool) (r : Request) → text ≡ true → r ≡ (if text then r else Unreadable)
is_text true r is = refl
is_text false r is = absurd (false≢true is)

no_text : (text : Bool) (r : Request) → (text ≡ true → ⊥) → Unreadable ≡ (if text then r else Unreadable)
no_text true r out = absurd (out refl)
no_text false r out = refl

pub opens : (name : List ℕ) → 0 < length name → IsUtf8 name → Opens name ≡ opening name
opens [] some text = absurd (omega (arith, some))
opens (b ∷ name) some text = is_text (is_utf8 (b ∷ name)) (Opens (b ∷ name)) (is_utf8-from_IsUtf8 (b ∷ name) text)

pub opens_none : (name : List ℕ) → (IsUtf8 name → ⊥) → Unreadable ≡ opening name
opens_none [] none = refl
opens_none (b ∷ name) none = no_text (is_utf8 (b ∷ name)) (Opens (b ∷ name)) (λ is. none (IsUtf8-from_is_utf8 (b ∷ name) is))
