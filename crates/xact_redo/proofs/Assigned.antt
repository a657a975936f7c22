-- The parents of assigned ids are set one after the other.
use Rattle.std.proofs.Common.{◌≡◌, ℕ, List, [], ◌∷◌, refl}
use Rattle.subtrans.specs.declared.Pair.{Pair}
use Rattle.transaction_model.specs.StandbyStates.{set_parents}

pub none_left : (top : ℕ) (pairs : List Pair) → set_parents top [] pairs ≡ pairs
unfolding set_parents
none_left top pairs = refl

pub one_more :
    (top x : ℕ) (rest : List ℕ) (pairs : List Pair)
    → set_parents top (x ∷ rest) pairs ≡ set_parents top rest (set_parents top (x ∷ []) pairs)
unfolding set_parents
one_more top x rest pairs = refl
