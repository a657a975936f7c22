-- Numbers in a text. PostgreSQL writes its files in the machine's own order, which is little-endian here.
use Rattle.std.specs.Prelude.{ℕ, Bool, not, ◌==◌, List, bit_and, drop}
use Rattle.byteorder.specs.Endian.{little_number}

-- the number in the n bytes that stand from `at` on, the lowest first
unfoldable pub number_at : ℕ → List ℕ → ℕ → ℕ
number_at n bytes at = little_number n (drop at bytes)

-- whether a number has any of these bits
abbrev pub has_bits : ℕ → ℕ → Bool
has_bits number bits = not (bit_and number bits == 0)
