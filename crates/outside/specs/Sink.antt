-- What a sink takes. What was written is told or not; where it is not told, nothing is claimed.
use Rattle.std.specs.Prelude.{ℕ, ◌≡◌, List, ◌++◌, take, Option, None, Some, Result, Ok, Err}
use Rattle.pg_types.specs.declared.fail.Fail.{Fail}
use Rattle.pg_types.specs.declared.fail.Fail.TheVariants.{Failed, Memory}

-- what a sink in memory took: all bytes written so far, and how many writes found no memory
pub record Written : Type 0 where
  pub bytes : List ℕ
  pub short : ℕ

-- exactly these bytes were added
abbrev pub Appends : Option (List ℕ) → Option (List ℕ) → List ℕ → Type 0
Appends None now bytes = Unit {0}
Appends (Some before) now bytes = now ≡ Some (before ++ bytes)

-- a prefix of these bytes was added
abbrev pub AppendsPrefix : Option (List ℕ) → Option (List ℕ) → List ℕ → Type 0
AppendsPrefix None now bytes = Unit {0}
AppendsPrefix (Some before) now bytes = (count : ℕ) × (now ≡ Some (before ++ take count bytes))

-- nothing was added
abbrev pub AppendsNothing : Option (List ℕ) → Option (List ℕ) → Type 0
AppendsNothing None now = Unit {0}
AppendsNothing (Some before) now = now ≡ Some before

-- what a write does: all of its bytes, or where it failed a prefix of them, or for want of memory nothing
abbrev pub Writes : {T : Type 0} → Option (List ℕ) → Option (List ℕ) → List ℕ → Result T Fail → Type 0
Writes before now bytes (Ok _) = Appends before now bytes
Writes before now bytes (Err Failed) = AppendsPrefix before now bytes
Writes before now bytes (Err Memory) = AppendsNothing before now
