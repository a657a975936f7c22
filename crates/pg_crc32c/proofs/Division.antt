-- The division is linear, and by whole bytes: what tables of 256 entries rest on.
use Rattle.std.proofs.Common.{length-drop, length, get_or, take, drop, ◌≤◌, lit<, ◌≡◌, ◌<◌, ◌+◌, ◌*◌, ◌/◌, ◌%◌, ◌^◌, ℕ, zero, suc, true, false, eqb, cond, refl, sym, ap, ◌∙◌, ◌⊎◌, inl, inr, arith, List, fold}
use Rattle.std.specs.Int.Bits.{bit_xor, xor_assoc, xor_zero_r}
use Rattle.std.proofs.lemmas.Nat.{xor_comm, xor_shr, xor_mod, xor_block, div-add-mod', mod_below, pow_pos}
use Rattle.std.proofs.Math.Nat.{pow-suc, mul_assoc, div-eq_of_lt, div-div-eq-div-mul}
use Rattle.std.proofs.Math.Seq.{drop-cons, take-add}
use Rattle.std.proofs.lemmas.List.{take-append-drop, get_or-drop}
use Rattle.std.proofs.lemmas.List.Sums.{fold-append}
use Rattle.byteorder.specs.Endian.{little_from, little_number}
use Rattle.pg_crc32c.specs.Crc32c.{after_bit, after_bits, after_byte}

-- what comes off where the lowest bit is this
abbrev taken : ℕ → ℕ
taken low = cond (eqb low 1) 0x82F63B78 0

after_bit-taken : (x : ℕ) → after_bit x ≡ bit_xor (x / 2) (taken (x % 2))
after_bit-taken x =
    elim (eqb (x % 2) 1) as (λ t. cond t (bit_xor (x / 2) 0x82F63B78) (x / 2) ≡ bit_xor (x / 2) (cond t 0x82F63B78 0))
    [ true ↦ refl | false ↦ sym (xor_zero_r (x / 2)) ]

low_bit : (x : ℕ) → (x % 2 ≡ 0) ⊎ (x % 2 ≡ 1)
low_bit x = grind arith

taken-xor : (a b : ℕ) → taken (bit_xor a b % 2) ≡ bit_xor (taken (a % 2)) (taken (b % 2))
taken-xor a b =
    let m : bit_xor a b % 2 ≡ bit_xor (a % 2) (b % 2) = xor_mod a b 1 in
    rw m (elim (low_bit a) [
      | inl p ↦ elim (low_bit b) [ inl q ↦ rw (p, q) refl | inr q ↦ rw (p, q) refl ]
      | inr p ↦ elim (low_bit b) [ inl q ↦ rw (p, q) refl | inr q ↦ rw (p, q) refl ]
    ])

-- two pairs joined crosswise
xor-cross : (a b c d : ℕ) → bit_xor (bit_xor a b) (bit_xor c d) ≡ bit_xor (bit_xor a c) (bit_xor b d)
xor-cross a b c d =
    xor_assoc a b (bit_xor c d)
    ∙ ap (bit_xor a) (sym (xor_assoc b c d) ∙ ap (λ x. bit_xor x d) (xor_comm b c) ∙ xor_assoc c b d)
    ∙ sym (xor_assoc a c (bit_xor b d))

after_bit-xor : (a b : ℕ) → after_bit (bit_xor a b) ≡ bit_xor (after_bit a) (after_bit b)
after_bit-xor a b =
    let halves : bit_xor a b / 2 ≡ bit_xor (a / 2) (b / 2) = xor_shr a b 1 in
    after_bit-taken (bit_xor a b)
    ∙ ap (λ x. bit_xor x (taken (bit_xor a b % 2))) halves
    ∙ ap (bit_xor (bit_xor (a / 2) (b / 2))) (taken-xor a b)
    ∙ xor-cross (a / 2) (b / 2) (taken (a % 2)) (taken (b % 2))
    ∙ sym (ap (λ x. bit_xor x (after_bit b)) (after_bit-taken a) ∙ ap (bit_xor (bit_xor (a / 2) (taken (a % 2)))) (after_bit-taken b))

-- the division is linear
pub after_bits-xor : (n a b : ℕ) → after_bits n (bit_xor a b) ≡ bit_xor (after_bits n a) (after_bits n b)
unfolding after_bits
after_bits-xor zero a b = refl
after_bits-xor (suc n) a b = ap (after_bits n) (after_bit-xor a b) ∙ after_bits-xor n (after_bit a) (after_bit b)

-- the bits of two runs, one after the other
pub after_bits-add : (m n x : ℕ) → after_bits (m + n) x ≡ after_bits n (after_bits m x)
unfolding after_bits
after_bits-add zero n x = let e : 0 + n ≡ n = omega arith in ap (λ k. after_bits k x) e
after_bits-add (suc m) n x =
    let e : suc m + n ≡ suc (m + n) = omega arith in
    ap (λ k. after_bits k x) e ∙ after_bits-add m n (after_bit x)

after_bit-double : (y : ℕ) → after_bit (y * 2) ≡ y
after_bit-double y =
    let even : (y * 2) % 2 ≡ 0 = grind arith in
    let half : (y * 2) / 2 ≡ y = grind arith in
    after_bit-taken (y * 2) ∙ rw (even, half) (xor_zero_r y)

-- low bits that are not set only move the rest down
pub after_bits-shifted : (n y : ℕ) → after_bits n (y * 2 ^ n) ≡ y
unfolding after_bits
after_bits-shifted zero y = grind arith
after_bits-shifted (suc n) y =
    let e : y * 2 ^ suc n ≡ y * 2 ^ n * 2 = ap (λ p. y * p) (pow-suc 2 n) ∙ sym (mul_assoc y (2 ^ n) 2) in
    ap (λ x. after_bits n (after_bit x)) e ∙ ap (after_bits n) (after_bit-double (y * 2 ^ n)) ∙ after_bits-shifted n y

-- a number above so many low bits
xor-above : (k a s : ℕ) → s < 2 ^ k → bit_xor (a * 2 ^ k) s ≡ a * 2 ^ k + s
xor-above k a s h =
    let block : bit_xor (a * 2 ^ k + 0) (0 * 2 ^ k + s) ≡ bit_xor a 0 * 2 ^ k + bit_xor 0 s = xor_block k a 0 0 s (pow_pos k) h in
    let zero_part : 0 * 2 ^ k + s ≡ s = omega arith in
    let whole : a * 2 ^ k + 0 ≡ a * 2 ^ k = omega arith in
    sym (ap (λ x. bit_xor x s) whole)
    ∙ sym (ap (bit_xor (a * 2 ^ k + 0)) zero_part)
    ∙ block
    ∙ ap (λ x. x * 2 ^ k + bit_xor 0 s) (xor_zero_r a)

-- a table's law: the lowest byte is divided by itself, and the rest moves down and is divided with it
pub after_bits-low_byte : (n x : ℕ) → after_bits (8 + n) x ≡ bit_xor (after_bits n (x / 256)) (after_bits (8 + n) (x % 256))
after_bits-low_byte n x =
    let low = x % 256 in
    let high = x / 256 in
    let parts : x ≡ bit_xor (high * 256) low = sym (xor-above 8 high low (mod_below x 256 (lit< tt)) ∙ div-add-mod' x 256) in
    ap (after_bits (8 + n)) parts
    ∙ after_bits-xor (8 + n) (high * 256) low
    ∙ ap (λ y. bit_xor y (after_bits (8 + n) low)) (after_bits-add 8 n (high * 256) ∙ ap (after_bits n) (after_bits-shifted 8 high))

-- one byte joined to the state and divided, by the table of one byte
pub after_byte-by_table : (crc byte : ℕ) → byte < 256 → after_byte crc byte ≡ bit_xor (crc / 256) (after_bits 8 (bit_xor crc byte % 256))
unfolding after_bits
after_byte-by_table crc byte h =
    let rest : bit_xor crc byte / 256 ≡ crc / 256 = xor_shr crc byte 8 ∙ ap (bit_xor (crc / 256)) (div-eq_of_lt h) ∙ xor_zero_r (crc / 256) in
    after_bits-low_byte 0 (bit_xor crc byte)
    ∙ ap (λ y. bit_xor y (after_bits 8 (bit_xor crc byte % 256))) rest

-- one more byte at the top, the others shifted down
after_bits-shift_down : (n k x : ℕ) → after_bits (8 + n) (x / k) ≡ bit_xor (after_bits n (x / (k * 256))) (after_bits (8 + n) (x / k % 256))
after_bits-shift_down n k x =
    after_bits-low_byte n (x / k) ∙ ap (λ y. bit_xor (after_bits n y) (after_bits (8 + n) (x / k % 256))) (div-div-eq-div-mul x k 256)

-- 64 bits, by the eight tables
pub after_bits-by_tables : (x : ℕ) → after_bits 64 x ≡
    bit_xor (bit_xor (bit_xor (bit_xor (bit_xor (bit_xor (bit_xor (after_bits 8 (x / 2 ^ 56))
    (after_bits 16 (x / 2 ^ 48 % 256))) (after_bits 24 (x / 2 ^ 40 % 256))) (after_bits 32 (x / 2 ^ 32 % 256)))
    (after_bits 40 (x / 2 ^ 24 % 256))) (after_bits 48 (x / 2 ^ 16 % 256))) (after_bits 56 (x / 2 ^ 8 % 256))) (after_bits 64 (x % 256))
after_bits-by_tables x =
    let with : (n low : ℕ) (a b : ℕ) → a ≡ b → bit_xor a (after_bits n low) ≡ bit_xor b (after_bits n low) = λ n low a b e. ap (λ y. bit_xor y (after_bits n low)) e in
    after_bits-low_byte 56 x
    ∙ with 64 (x % 256) _ _ (after_bits-shift_down 48 (2 ^ 8) x
    ∙ with 56 (x / 2 ^ 8 % 256) _ _ (after_bits-shift_down 40 (2 ^ 16) x
    ∙ with 48 (x / 2 ^ 16 % 256) _ _ (after_bits-shift_down 32 (2 ^ 24) x
    ∙ with 40 (x / 2 ^ 24 % 256) _ _ (after_bits-shift_down 24 (2 ^ 32) x
    ∙ with 32 (x / 2 ^ 32 % 256) _ _ (after_bits-shift_down 16 (2 ^ 40) x
    ∙ with 24 (x / 2 ^ 40 % 256) _ _ (after_bits-shift_down 8 (2 ^ 48) x))))))

-- 32 bits, by four of them
pub after_bits-by_four_tables : (x : ℕ) → after_bits 32 x ≡
    bit_xor (bit_xor (bit_xor (after_bits 8 (x / 2 ^ 24)) (after_bits 16 (x / 2 ^ 16 % 256))) (after_bits 24 (x / 2 ^ 8 % 256))) (after_bits 32 (x % 256))
after_bits-by_four_tables x =
    let with : (n low : ℕ) (a b : ℕ) → a ≡ b → bit_xor a (after_bits n low) ≡ bit_xor b (after_bits n low) = λ n low a b e. ap (λ y. bit_xor y (after_bits n low)) e in
    after_bits-low_byte 24 x
    ∙ with 32 (x % 256) _ _ (after_bits-shift_down 16 (2 ^ 8) x
    ∙ with 24 (x / 2 ^ 8 % 256) _ _ (after_bits-shift_down 8 (2 ^ 16) x))

-- 64 bits and 64 bits of zeros, by the tables for these distances
pub after_bits-by_far_tables : (x : ℕ) → after_bits 128 x ≡
    bit_xor (bit_xor (bit_xor (bit_xor (bit_xor (bit_xor (bit_xor (after_bits 72 (x / 2 ^ 56))
    (after_bits 80 (x / 2 ^ 48 % 256))) (after_bits 88 (x / 2 ^ 40 % 256))) (after_bits 96 (x / 2 ^ 32 % 256)))
    (after_bits 104 (x / 2 ^ 24 % 256))) (after_bits 112 (x / 2 ^ 16 % 256))) (after_bits 120 (x / 2 ^ 8 % 256))) (after_bits 128 (x % 256))
after_bits-by_far_tables x =
    let with : (n low : ℕ) (a b : ℕ) → a ≡ b → bit_xor a (after_bits n low) ≡ bit_xor b (after_bits n low) = λ n low a b e. ap (λ y. bit_xor y (after_bits n low)) e in
    after_bits-low_byte 120 x
    ∙ with 128 (x % 256) _ _ (after_bits-shift_down 112 (2 ^ 8) x
    ∙ with 120 (x / 2 ^ 8 % 256) _ _ (after_bits-shift_down 104 (2 ^ 16) x
    ∙ with 112 (x / 2 ^ 16 % 256) _ _ (after_bits-shift_down 96 (2 ^ 24) x
    ∙ with 104 (x / 2 ^ 24 % 256) _ _ (after_bits-shift_down 88 (2 ^ 32) x
    ∙ with 96 (x / 2 ^ 32 % 256) _ _ (after_bits-shift_down 80 (2 ^ 40) x
    ∙ with 88 (x / 2 ^ 40 % 256) _ _ (after_bits-shift_down 72 (2 ^ 48) x))))))

-- a number of several bytes joins as its first byte does, the rest of it above
after_bits-joined : (crc byte rest : ℕ) → byte < 256 → after_bits 8 (bit_xor crc (byte + 256 * rest)) ≡ bit_xor (after_byte crc byte) rest
after_bits-joined crc byte rest h =
    let turned : byte + 256 * rest ≡ rest * 2 ^ 8 + byte = omega arith in
    let apart : byte + 256 * rest ≡ bit_xor byte (rest * 2 ^ 8) = turned ∙ sym (xor-above 8 rest byte h) ∙ xor_comm (rest * 2 ^ 8) byte in
    ap (λ y. after_bits 8 (bit_xor crc y)) apart
    ∙ ap (after_bits 8) (sym (xor_assoc crc byte (rest * 2 ^ 8)))
    ∙ after_bits-xor 8 (bit_xor crc byte) (rest * 2 ^ 8)
    ∙ ap (bit_xor (after_byte crc byte)) (after_bits-shifted 8 rest)

-- n bytes one after the other are the number that they spell, divided at once
pub fold-after_byte : (n i : ℕ) (xs : List ℕ) (crc : ℕ) → ((k : ℕ) → get_or xs k 0 < 256) → i + n ≤ length xs
    → fold after_byte crc (take n (drop i xs)) ≡ after_bits (8 * n) (bit_xor crc (little_from i n xs))
unfolding after_bits
fold-after_byte zero i xs crc small h = sym (xor_zero_r crc)
fold-after_byte (suc n) i xs crc small h =
    let here : i < length xs = omega arith in
    let byte = get_or xs i 0 in
    let rest = little_from (suc i) n xs in
    let within : suc i + n ≤ length xs = omega arith in
    let bits : 8 * suc n ≡ 8 + 8 * n = omega arith in
    ap (λ l. fold after_byte crc (take (suc n) l)) (drop-cons xs i 0 here)
    ∙ fold-after_byte n (suc i) xs (after_byte crc byte) small within
    ∙ ap (after_bits (8 * n)) (sym (after_bits-joined crc byte rest (small i)))
    ∙ sym (after_bits-add 8 (8 * n) (bit_xor crc (byte + 256 * rest)))
    ∙ sym (ap (λ k. after_bits k (bit_xor crc (byte + 256 * rest))) bits)

-- eight bytes more, read as one number
pub fold-eight_more : (xs : List ℕ) (at crc : ℕ) → ((k : ℕ) → get_or xs k 0 < 256) → at + 8 ≤ length xs
    → fold after_byte crc (take (at + 8) xs) ≡ after_bits 64 (bit_xor (fold after_byte crc (take at xs)) (little_number 8 (drop at xs)))
fold-eight_more xs at crc small h =
    let small_rest : (k : ℕ) → get_or (drop at xs) k 0 < 256 = λ k. rw get_or-drop (small (at + k)) in
    let within : 0 + 8 ≤ length (drop at xs) = omega (arith, length-drop at xs) in
    ap (fold after_byte crc) (take-add at 8 xs)
    ∙ fold-append after_byte crc (take at xs) (take 8 (drop at xs))
    ∙ fold-after_byte 8 0 (drop at xs) (fold after_byte crc (take at xs)) small_rest within

-- sixteen bytes more, read as two numbers
pub fold-sixteen_more : (xs : List ℕ) (at crc : ℕ) → ((k : ℕ) → get_or xs k 0 < 256) → at + 16 ≤ length xs
    → fold after_byte crc (take (at + 16) xs)
    ≡ bit_xor (after_bits 64 (little_number 8 (drop (at + 8) xs))) (after_bits 128 (bit_xor (fold after_byte crc (take at xs)) (little_number 8 (drop at xs))))
fold-sixteen_more xs at crc small h =
    let joined = bit_xor (fold after_byte crc (take at xs)) (little_number 8 (drop at xs)) in
    let behind = little_number 8 (drop (at + 8) xs) in
    let places : at + 16 ≡ at + 8 + 8 = omega arith in
    let first : at + 8 ≤ length xs = omega arith in
    let later : at + 8 + 8 ≤ length xs = omega arith in
    ap (λ n. fold after_byte crc (take n xs)) places
    ∙ fold-eight_more xs (at + 8) crc small later
    ∙ ap (λ s. after_bits 64 (bit_xor s behind)) (fold-eight_more xs at crc small first)
    ∙ after_bits-xor 64 (after_bits 64 joined) behind
    ∙ ap (λ y. bit_xor y (after_bits 64 behind)) (sym (after_bits-add 64 64 joined))
    ∙ xor_comm (after_bits 128 joined) (after_bits 64 behind)

-- what was taken, and then the rest
pub fold-take_drop : (xs : List ℕ) (at crc : ℕ) → fold after_byte (fold after_byte crc (take at xs)) (drop at xs) ≡ fold after_byte crc xs
fold-take_drop xs at crc = sym (fold-append after_byte crc (take at xs) (drop at xs)) ∙ ap (fold after_byte crc) (take-append-drop at xs)

-- the first bytes divided at once, and then the rest
pub fold-front : (n : ℕ) (xs : List ℕ) (crc : ℕ) → ((k : ℕ) → get_or xs k 0 < 256) → n ≤ length xs
    → fold after_byte (after_bits (8 * n) (bit_xor crc (little_number n xs))) (drop n xs) ≡ fold after_byte crc xs
fold-front n xs crc small h =
    let within : 0 + n ≤ length xs = omega arith in
    ap (λ s. fold after_byte s (drop n xs)) (sym (fold-after_byte n 0 xs crc small within)) ∙ fold-take_drop xs n crc
