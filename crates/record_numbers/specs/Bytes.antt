-- A log of which bytes are told.
use Rattle.std.specs.Prelude.{◌≡◌, ℕ, ◌<◌, Some}
use Rattle.wal_reader.specs.Told.{Told}

-- what is told at each position is a byte
abbrev pub TellsBytes : Told → Type 0
TellsBytes told = (at byte : ℕ) → told.byte at ≡ Some byte → byte < 256
