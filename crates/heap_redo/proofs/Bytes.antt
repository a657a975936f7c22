-- The bytes of a header.
use Rattle.std.proofs.Common.{arith, ap, refl, ◌++◌, ◌∷◌, [], ◌/◌, ◌%◌, ◌≡◌, ℕ, zero, suc, List, length, take, slice_set}
use Rattle.byteorder.specs.Endian.{little_bytes}

-- the last of the bytes is set
pub set-last : (n : ℕ) (bytes : List ℕ) (x : ℕ) → length bytes ≡ suc n → slice_set bytes n x ≡ take n bytes ++ x ∷ []
set-last n [] x h = absurd (omega arith)
set-last zero (y ∷ []) x h = refl
set-last zero (y ∷ z ∷ ys) x h = absurd (omega arith)
set-last (suc n) (y ∷ ys) x h = ap (λ l. y ∷ l) (set-last n ys x (omega arith))

-- four bytes show a number up to 2 ^ 32
pub low_half : (x : ℕ) → little_bytes 4 (x % 4294967296) ≡ little_bytes 4 x
low_half x =
    let a : x % 4294967296 % 256 ≡ x % 256 = omega arith in
    let b : x % 4294967296 / 256 % 256 ≡ x / 256 % 256 = omega arith in
    let c : x % 4294967296 / 65536 % 256 ≡ x / 65536 % 256 = omega arith in
    let d : x % 4294967296 / 16777216 % 256 ≡ x / 16777216 % 256 = omega arith in
    cc
