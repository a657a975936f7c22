-- Tuples that are the same from some byte of their headers on.
use Rattle.std.proofs.Common.{◌≡◌, ℕ, List, drop, get_or, sym, ap, ◌∙◌}
use Rattle.std.proofs.lemmas.List.{get_or-drop}
use Rattle.heap_tuple.specs.Tuple.{hoff_of}

-- the same bytes from byte 22 on begin with the same hoff
pub same_hoff : (tuple written : List ℕ) → drop 22 tuple ≡ drop 22 written → hoff_of tuple ≡ hoff_of written
same_hoff tuple written e =
    sym (get_or-drop 22 tuple 0 0) ∙ ap (λ (bytes : List ℕ). get_or bytes 0 0) e ∙ get_or-drop 22 written 0 0
