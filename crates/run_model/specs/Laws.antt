-- What the definitions promise together.
use Rattle.std.specs.Prelude.{◌≡◌, ℕ, List, Option}
use Rattle.run_model.specs.Starts.{Start, Starts}

-- a run begins in one way
abbrev pub OneStart : Type 0
OneStart =
    (words : List (List ℕ)) (base : List ℕ → Option (List ℕ)) (a b : Start) → Starts words base a → Starts words base b → a ≡ b
