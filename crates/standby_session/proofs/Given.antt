-- The lines that bytes give, taken in parts.
use Rattle.std.proofs.Common.{◌≡◌, ℕ, ◌+◌, ◌<◌, List, [], ◌∷◌, ◌++◌, length, get_or, take, refl, ap, sym, ◌∙◌, append_assoc, append-nil}
use Rattle.std.proofs.lemmas.List.{take_more}
use Rattle.session_text.specs.Requests.{Request, request_of, requests_of}
use Rattle.session_text.specs.Taking.{Taking, given, lines_given, step, taken_behind}

pub requests_on : (first second : List (List ℕ)) → requests_of (first ++ second) ≡ requests_of first ++ requests_of second
unfolding requests_of
requests_on [] second = refl
requests_on (line ∷ first) second = ap (λ (rs : List Request). request_of line ∷ rs) (requests_on first second)

lines_on : (t : Taking) (xs ys : List ℕ) → lines_given t (xs ++ ys) ≡ lines_given t xs ++ lines_given (taken_behind t xs) ys
lines_on t [] ys = refl
lines_on t (b ∷ xs) ys =
    ap (λ (ls : List (List ℕ)). given (step t b).1 ++ ls) (lines_on (step t b).0 xs ys)
    ∙ sym (append_assoc (given (step t b).1) (lines_given (step t b).0 xs) (lines_given (taken_behind (step t b).0 xs) ys))

pub taken_on : (t : Taking) (xs ys : List ℕ) → taken_behind t (xs ++ ys) ≡ taken_behind (taken_behind t xs) ys
taken_on t [] ys = refl
taken_on t (b ∷ xs) ys = taken_on (step t b).0 xs ys

-- the requests of two parts
pub asked_on :
    (t : Taking) (xs ys : List ℕ)
    → requests_of (lines_given t (xs ++ ys)) ≡ requests_of (lines_given t xs) ++ requests_of (lines_given (taken_behind t xs) ys)
asked_on t xs ys = ap requests_of (lines_on t xs ys) ∙ requests_on (lines_given t xs) (lines_given (taken_behind t xs) ys)

-- those of one byte more
pub asked_more :
    (t : Taking) (bytes : List ℕ) (i : ℕ) → i < length bytes
    → requests_of (lines_given t (take (i + 1) bytes))
    ≡ requests_of (lines_given t (take i bytes)) ++ requests_of (given (step (taken_behind t (take i bytes)) (get_or bytes i 0)).1)
asked_more t bytes i lt =
    ap (λ (xs : List ℕ). requests_of (lines_given t xs)) (take_more bytes i 0 lt)
    ∙ asked_on t (take i bytes) (get_or bytes i 0 ∷ [])
    ∙ ap (λ (ls : List (List ℕ)). requests_of (lines_given t (take i bytes)) ++ requests_of ls) (append-nil (given (step (taken_behind t (take i bytes)) (get_or bytes i 0)).1))

pub taken_more :
    (t : Taking) (bytes : List ℕ) (i : ℕ) → i < length bytes
    → taken_behind t (take (i + 1) bytes) ≡ (step (taken_behind t (take i bytes)) (get_or bytes i 0)).0
taken_more t bytes i lt =
    ap (λ (xs : List ℕ). taken_behind t xs) (take_more bytes i 0 lt) ∙ taken_on t (take i bytes) (get_or bytes i 0 ∷ [])
