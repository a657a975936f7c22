-- What is copied from a text's rest, and what is left of it.
use Rattle.std.proofs.Common.{◌≡◌, ℕ, ◌+◌, ◌-◌, ◌<◌, ◌≤◌, List, [], ◌∷◌, ◌++◌, length, take, drop, min, Some, refl, sym, ap, ◌∙◌, arith, length-append}
use Rattle.std.proofs.lemmas.List.{drop-drop, length-drop, length-take-le, take-append-drop, take-append-le, take_all}
use Rattle.outside.specs.Source.{GivesFront}

no_rest : (rest : List ℕ) → length rest ≡ 0 → rest ≡ []
no_rest [] none = refl
no_rest (b ∷ rest) none = absurd (omega (arith, none))

pub gives : (text rest before front copied : List ℕ) (at count most : ℕ) → rest ≡ drop at text → count ≡ min (min (length rest) (length before)) most
    → 0 < most → front ≡ take count rest → copied ≡ front → GivesFront (drop at text) (Some (drop (at + count) text)) (copied ++ drop count before) count
gives text rest before front copied at count most behind is some first same =
    let size : length copied ≡ count = ap length (same ∙ first) ∙ length-take-le count rest (omega (arith, is)) in
    let kept : take count (copied ++ drop count before) ≡ copied = take-append-le count copied (drop count before) (omega (arith, size)) ∙ take_all count copied (omega (arith, size)) in
    let taken : take count (copied ++ drop count before) ≡ take count (drop at text) = kept ∙ (same ∙ (first ∙ ap (take count) behind)) in
    let room : length (drop count before) ≡ length before - count = length-drop count before in
    let same_length : length rest ≡ length (drop at text) = ap length behind in
    record {
      rest = drop (at + count) text;
      told = refl;
      front = sym (take-append-drop count (drop at text)) ∙ (ap (λ (x : List ℕ). x ++ drop count (drop at text)) (sym taken) ∙ ap (λ (x : List ℕ). take count (copied ++ drop count before) ++ x) (drop-drop count at text));
      none = λ some_room none. no_rest (drop at text) (omega (arith, is, some, some_room, none, size, room, same_length, length-append copied (drop count before)));
    }
