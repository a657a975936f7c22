-- What a reader keeps of a log between two answers: bytes in a row, read from some position on.
use Rattle.std.specs.Prelude.{ℕ, ◌≡◌, ◌≢◌, ◌+◌, ◌-◌, ◌%◌, ◌^◌, ◌≤◌, Option, Some, List, length, take, drop}
use Rattle.pg_types.specs.Numbers.{number_at}
use Rattle.wal_reader.specs.Told.{told_bytes}

pub record Kept : Type 0 where
  pub from : ℕ
  pub bytes : List ℕ

-- the bytes that are kept are told
abbrev pub AreTold : (ℕ → Option ℕ) → Kept → Type 0
AreTold byte kept = told_bytes byte (length kept.bytes) kept.from ≡ Some kept.bytes

-- so many positions from this one on are kept
abbrev pub Covers : Kept → ℕ → ℕ → Type 0
Covers kept at n = (kept.from ≤ at) × (at + n ≤ kept.from + length kept.bytes)

-- the bytes at so many positions
abbrev pub piece_of : Kept → ℕ → ℕ → List ℕ
piece_of kept at n = take n (drop (at - kept.from) kept.bytes)

-- a record of so many bytes stands whole in one page, not at its start, and says its length
pub record IsInPage (kept : Kept) (start len : ℕ) : Type 0 where
  pub covered : Covers kept start len
  pub inside : start % 8192 ≢ 0
  pub within : start % 8192 + len ≤ 8192
  pub header_fits : 24 ≤ len
  pub below : start + len ≤ 2 ^ 63
  pub says : number_at 4 (piece_of kept start len) 0 ≡ len
