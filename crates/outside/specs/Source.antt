-- What a source gives. The bytes that are still to come are told or not; where they are not told, nothing is claimed of
-- them.
use Rattle.std.specs.Prelude.{ℕ, ◌≡◌, ◌+◌, ◌<◌, ◌≤◌, ◌^◌, List, [], ◌++◌, length, take, Option, None, Some, Result, Ok, Err, IfSome}
use Rattle.pg_types.specs.declared.fail.Fail.{Fail}
use Rattle.pg_types.specs.Bytes.{AreBytes}

-- no more bytes than these are read from a source
abbrev pub IsTaken : ℕ → Type 0
IsTaken taken = taken ≤ 2 ^ 62

-- what is told are bytes
abbrev pub HasBytes : Option (List ℕ) → Type 0
HasBytes rest = IfSome rest AreBytes

-- the buffer's front is the front of what was still to come, and the rest comes later; none is given only at the end, or
-- into an empty buffer
pub record GivesFront (before : List ℕ) (now : Option (List ℕ)) (buffer : List ℕ) (count : ℕ) : Type 0 where
  pub rest : List ℕ
  pub told : now ≡ Some rest
  pub front : before ≡ take count buffer ++ rest
  pub none : 0 < length buffer → count ≡ 0 → before ≡ []

-- a read that does not succeed loses nothing
abbrev pub GivesSome : List ℕ → Option (List ℕ) → List ℕ → Result ℕ Fail → Type 0
GivesSome before now buffer (Ok count) = GivesFront before now buffer count
GivesSome before now buffer (Err fail) = now ≡ Some before

abbrev pub Gives : Option (List ℕ) → Option (List ℕ) → List ℕ → Result ℕ Fail → Type 0
Gives None now buffer answer = Unit {0}
Gives (Some before) now buffer answer = GivesSome before now buffer answer

-- told or not, no more is given than the buffer holds, and what is given is counted
abbrev pub Counts : ℕ → ℕ → List ℕ → Result ℕ Fail → Type 0
Counts before now buffer (Ok count) = (count ≤ length buffer) × (now ≡ before + count)
Counts before now buffer (Err fail) = now ≡ before
