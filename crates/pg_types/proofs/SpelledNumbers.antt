-- A number and its bytes, both ways.
use Rattle.std.proofs.Common.{◌/◌, ◌%◌, ◌≡◌, ℕ, zero, suc, ◌+◌, ◌*◌, ◌^◌, ◌<◌, ◌≤◌, List, [], ◌∷◌, ◌++◌, length, take, drop, length-drop, refl, sym, ap, ◌∙◌, arith}
use Rattle.std.proofs.Math.Nat.{add-mul-div_left, div-div-eq-div-mul, pow-suc, div-eq_of_lt}
use Rattle.std.proofs.lemmas.List.{drop-drop, take-append-drop}
use Rattle.std.proofs.lemmas.List.Elements.{All-head, All-tail, All-drop}
use Rattle.std.specs.Int.{byte_at, bytes_low_first}
use Rattle.byteorder.specs.Endian.{little_bytes, little_number, little_from}
use Rattle.byteorder.specs.Numbers.{little_from-cons, little_number-reads_back}
use Rattle.pg_types.specs.Bytes.{AreBytes}
use Rattle.pg_types.specs.Numbers.{number_at}

-- a byte of a number, without the lowest byte
byte_at-above : (k y z : ℕ) → y < 256 → byte_at (suc k) (y + 256 * z) ≡ byte_at k z
byte_at-above zero y z h =
    let e : (y + 256 * z) / 256 ≡ y / 256 + z = add-mul-div_left y z (omega arith) in
    let o : y / 256 ≡ 0 = div-eq_of_lt h in
    rw (e, o) (omega arith)
byte_at-above (suc k) y z h =
    let e : (y + 256 * z) / 256 ≡ y / 256 + z = add-mul-div_left y z (omega arith) in
    let o : y / 256 ≡ 0 = div-eq_of_lt h in
    let p : 256 ^ suc (suc k) ≡ 256 * 256 ^ suc k = pow-suc 256 (suc k) ∙ omega arith in
    let q : (y + 256 * z) / (256 * 256 ^ suc k) ≡ z / 256 ^ suc k = sym (div-div-eq-div-mul (y + 256 * z) 256 (256 ^ suc k)) ∙ ap (λ x. x / 256 ^ suc k) (e ∙ ap (λ x. x + z) o ∙ omega arith) in
    rw (p, q) refl

-- the bytes of a number, without the lowest one
bytes-above : (n k y z : ℕ) → y < 256 → bytes_low_first (suc k) n (y + 256 * z) ≡ bytes_low_first k n z
bytes-above zero k y z h = refl
bytes-above (suc n) k y z h = rw (byte_at-above k y z h, bytes-above n (suc k) y z h) refl

-- bytes are those of the number that they are
pub bytes_of_number : (n : ℕ) (bytes : List ℕ) → AreBytes bytes → n ≤ length bytes → little_bytes n (little_number n bytes) ≡ take n bytes
bytes_of_number zero bytes all h = refl
bytes_of_number (suc n) [] all h = absurd (omega arith)
bytes_of_number (suc n) (y ∷ rest) all h =
    let small : y < 256 = All-head (λ byte. byte < 256) y rest all in
    let later = bytes_of_number n rest (All-tail (λ byte. byte < 256) y rest all) (omega arith) in
    let moved = little_from-cons 0 n y rest in
    let low : (y + 256 * little_from 0 n rest) % 256 ≡ y = omega arith in
    let high = bytes-above n 0 y (little_from 0 n rest) small in
    rw (moved, low, high, later) refl

-- the number that stands at a place is spelled there
pub spelled_at : (n : ℕ) (bytes : List ℕ) (at : ℕ) → AreBytes bytes → at + n ≤ length bytes
    → drop at bytes ≡ little_bytes n (number_at n bytes at) ++ drop (at + n) bytes
unfolding number_at
spelled_at n bytes at all h =
    let e = bytes_of_number n (drop at bytes) (All-drop (λ byte. byte < 256) at bytes all) (omega (arith, length-drop at bytes)) in
    rw (e, ← drop-drop n at bytes) (sym (take-append-drop n (drop at bytes)))

-- a number that is spelled is read
pub read_back : (n x : ℕ) (rest : List ℕ) → x < 256 ^ n → little_number n (little_bytes n x ++ rest) ≡ x
read_back n x rest h = little_number-reads_back n x rest h
