-- What a write leaves in a page.
use Rattle.std.specs.Prelude.{ℕ, ◌+◌, List, ◌++◌, take, drop, length}
use Rattle.byteorder.specs.Endian.{little_bytes}

-- the n bytes of a number, the lowest first
unfoldable pub number_bytes : ℕ → ℕ → List ℕ
number_bytes n x = little_bytes n x

-- the page with these bytes from `at` on
unfoldable pub written : List ℕ → ℕ → List ℕ → List ℕ
written page at bytes = take at page ++ bytes ++ drop (at + length bytes) page
