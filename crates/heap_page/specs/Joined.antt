-- A block in two parts.
use Rattle.std.specs.Prelude.{ℕ, ◌+◌, ◌-◌, List, ◌++◌, length, replicate}

-- a first part, zeros, and the rest at the block's end
unfoldable pub joined : List ℕ → List ℕ → List ℕ
joined first rest = first ++ replicate (8192 - (length first + length rest)) 0 ++ rest
