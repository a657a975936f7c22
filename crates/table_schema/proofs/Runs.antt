-- A text that is printed run by run: what stands before an escape, and the escape.
use Rattle.std.proofs.Common.{◌≡◌, ◌∙◌, ℕ, ◌+◌, ◌<◌, ◌≤◌, List, [], ◌∷◌, ◌++◌, length, take, drop, get_or, sym, ap, arith}
use Rattle.std.specs.List.{flat_map}
use Rattle.std.proofs.lemmas.Grind.{flat_map-append}
use Rattle.std.proofs.lemmas.List.{append-nil, get_or-drop, take_all, take_more}
use Rattle.std.proofs.Math.Seq.{take-add}

-- the bytes before the next escape are printed as they are
pub plain_run : (f : ℕ → List ℕ) (bytes : List ℕ) (at len : ℕ) → flat_map f (take len (drop at bytes)) ≡ take len (drop at bytes) → flat_map f (take (at + len) bytes) ≡ flat_map f (take at bytes) ++ take len (drop at bytes)
plain_run f bytes at len plain =
    ap (flat_map f) (take-add at len bytes)
    ∙ flat_map-append f (take at bytes) (take len (drop at bytes))
    ∙ ap (λ xs. flat_map f (take at bytes) ++ xs) plain

-- and the byte behind them by its escape
pub run_and_escape : (f : ℕ → List ℕ) (bytes : List ℕ) (at len d : ℕ) → flat_map f (take len (drop at bytes)) ≡ take len (drop at bytes) → at + len < length bytes → flat_map f (take (at + (len + 1)) bytes) ≡ flat_map f (take at bytes) ++ take len (drop at bytes) ++ f (get_or (drop at bytes) len d)
run_and_escape f bytes at len d plain within =
    let next : at + (len + 1) ≡ (at + len) + 1 = omega arith in
    let same : get_or bytes (at + len) d ≡ get_or (drop at bytes) len d = sym (get_or-drop at bytes len d) in
    ap (λ n. flat_map f (take n bytes)) next
    ∙ ap (flat_map f) (take_more bytes (at + len) d within)
    ∙ flat_map-append f (take (at + len) bytes) (get_or bytes (at + len) d ∷ [])
    ∙ ap (λ xs. xs ++ flat_map f (get_or bytes (at + len) d ∷ [])) (plain_run f bytes at len plain)
    ∙ ap (λ x. flat_map f (take at bytes) ++ take len (drop at bytes) ++ flat_map f (x ∷ [])) same
    ∙ ap (λ xs. flat_map f (take at bytes) ++ take len (drop at bytes) ++ xs) (append-nil (f (get_or (drop at bytes) len d)))

-- the last run
pub last_run : (f : ℕ → List ℕ) (bytes : List ℕ) (at len : ℕ) → flat_map f (take len (drop at bytes)) ≡ take len (drop at bytes) → length bytes ≤ at + len → flat_map f (take (at + (len + 1)) bytes) ≡ flat_map f (take at bytes) ++ take len (drop at bytes)
last_run f bytes at len plain whole =
    ap (flat_map f) (take_all (at + (len + 1)) bytes (omega (arith, whole)) ∙ sym (take_all (at + len) bytes whole))
    ∙ plain_run f bytes at len plain
