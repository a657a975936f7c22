-- The bits of a header's masks that a mark leaves, clears and sets.
use Rattle.std.proofs.Common.{◌≡◌, ℕ, ◌-◌, ◌%◌, ◌^◌, ◌<◌, ◌==◌, Bool, true, false, not, bit_and, bit_or, refl, sym, ap, ◌∙◌, arith, if◌then◌else◌}
use Rattle.std.proofs.lemmas.Nat.{and_assoc, and_or_apart, and_le_r, and_mask, or_lt}
use Rattle.std.specs.Int.Bits.{and_zero_r}
use Rattle.std.proofs.lemmas.Nat.Bits.{bit_at_and, bit_at_or, same_from_bits_below}
use Rattle.heap_tuple.specs.Tuple.{is_lock_only}
use Rattle.pg_types.specs.Numbers.{has_bits}
use Rattle.heap_redo.specs.TupleHeads.{without, set_for, marked_mask, marked_mask2}

-- the bits n of an or are those of both
and_or_both : (n a m : ℕ) → n < 2 ^ 16 → bit_and (bit_or a m) n ≡ bit_or (bit_and a n) (bit_and m n)
and_or_both n a m h =
    let x = and_le_r (bit_or a m) n in
    let y = and_le_r a n in
    let z = and_le_r m n in
    same_from_bits_below 16 (bit_and (bit_or a m) n) (bit_or (bit_and a n) (bit_and m n)) (omega arith)
    (or_lt 16 (bit_and a n) (bit_and m n) (omega arith) (omega arith))
    (λ i _. let p = bit_at_and (bit_or a m) n i in
    let q = bit_at_or a m i in
    let r = bit_at_or (bit_and a n) (bit_and m n) i in
    let s = bit_at_and a n i in
    let t = bit_at_and m n i in
    omega (arith, p, q, r, s, t))

-- a bit that a record sets is none of the bits n, where its flag is none
set-apart : (bits bit flag n : ℕ) → bit_and flag n ≡ 0 → bit_and (set_for bits bit flag) n ≡ 0
set-apart bits bit flag n h = by_test (has_bits bits bit)
  where
    by_test : (b : Bool) → bit_and (if b then flag else 0) n ≡ 0
    by_test true = h
    by_test false = refl

set-small : (bits bit flag : ℕ) → flag < 2 ^ 16 → set_for bits bit flag < 2 ^ 16
set-small bits bit flag h = by_test (has_bits bits bit)
  where
    by_test : (b : Bool) → (if b then flag else 0) < 2 ^ 16
    by_test true = h
    by_test false = omega arith

-- those bits of a mark that it neither clears nor sets are the mask's
mark-keeps :
    (bits mask n : ℕ) → bit_and 0x1000 n ≡ 0 → bit_and 0x0080 n ≡ 0 → bit_and 0x0040 n ≡ 0 → bit_and 0x0010 n ≡ 0
    → bit_and (marked_mask bits mask) n ≡ bit_and mask (bit_and 0x232F n)
unfolding marked_mask
mark-keeps bits mask n h1 h2 h4 h8 =
    let f1 = set_for bits 1 0x1000 in
    let f2 = set_for bits 2 0x0080 in
    let f4 = set_for bits 4 0x0040 in
    let f8 = set_for bits 8 0x0010 in
    let m = without mask 0xDCD0 in
    and_or_apart n (bit_or (bit_or (bit_or m f1) f2) f4) f8 (set-apart bits 8 0x0010 n h8)
    ∙ and_or_apart n (bit_or (bit_or m f1) f2) f4 (set-apart bits 4 0x0040 n h4)
    ∙ and_or_apart n (bit_or m f1) f2 (set-apart bits 2 0x0080 n h2)
    ∙ and_or_apart n m f1 (set-apart bits 1 0x1000 n h1)
    ∙ and_assoc n mask 0x232F

-- those that it clears or sets depend on the record's bits alone
mark-sets :
    (bits mask n : ℕ) → n < 2 ^ 16 → bit_and 0x232F n ≡ 0
    → bit_and (marked_mask bits mask) n ≡ bit_and (marked_mask bits 0) n
unfolding marked_mask
mark-sets bits mask n small h =
    let f1 = set_for bits 1 0x1000 in
    let f2 = set_for bits 2 0x0080 in
    let f4 = set_for bits 4 0x0040 in
    let f8 = set_for bits 8 0x0010 in
    let spread = λ (m : ℕ). and_or_both n (bit_or (bit_or (bit_or m f1) f2) f4) f8 small
    ∙ ap (λ x. bit_or x (bit_and f8 n)) (and_or_both n (bit_or (bit_or m f1) f2) f4 small
    ∙ ap (λ x. bit_or x (bit_and f4 n)) (and_or_both n (bit_or m f1) f2 small
    ∙ ap (λ x. bit_or x (bit_and f2 n)) (and_or_both n m f1 small))) in
    let none = and_assoc n mask 0x232F ∙ ap (bit_and mask) h ∙ and_zero_r mask in
    spread (without mask 0xDCD0)
    ∙ ap (λ x. bit_or (bit_or (bit_or (bit_or x (bit_and f1 n)) (bit_and f2 n)) (bit_and f4 n)) (bit_and f8 n)) none
    ∙ sym (spread 0)

-- the marks of xmin and the bit of nulls stay, the marks of xmax go
pub mark-xmin_marks : (bits mask : ℕ) → bit_and (marked_mask bits mask) 0x0300 ≡ bit_and mask 0x0300
mark-xmin_marks bits mask = mark-keeps bits mask 0x0300 refl refl refl refl

pub mark-nulls : (bits mask : ℕ) → has_bits (marked_mask bits mask) 0x0001 ≡ has_bits mask 0x0001
mark-nulls bits mask = ap (λ n. not (n == 0)) (mark-keeps bits mask 0x0001 refl refl refl refl)

pub mark-committed : (bits mask : ℕ) → has_bits (marked_mask bits mask) 0x0400 ≡ false
mark-committed bits mask = ap (λ n. not (n == 0)) (mark-keeps bits mask 0x0400 refl refl refl refl ∙ and_zero_r mask)

pub mark-invalid : (bits mask : ℕ) → has_bits (marked_mask bits mask) 0x0800 ≡ false
mark-invalid bits mask = ap (λ n. not (n == 0)) (mark-keeps bits mask 0x0800 refl refl refl refl ∙ and_zero_r mask)

-- whether the mark is only a lock, and whether it is a multixact, is what the record says
pub mark-lock_only : (bits mask : ℕ) → is_lock_only (marked_mask bits mask) ≡ is_lock_only (marked_mask bits 0)
unfolding is_lock_only
mark-lock_only bits mask =
    let a = mark-sets bits mask 0x0080 (omega arith) refl in
    let b = mark-sets bits mask 0x1050 (omega arith) refl in
    cc

pub mark-multi : (bits mask : ℕ) → has_bits (marked_mask bits mask) 0x1000 ≡ has_bits bits 1
unfolding marked_mask
mark-multi bits mask =
    let f1 = set_for bits 1 0x1000 in
    let f2 = set_for bits 2 0x0080 in
    let f4 = set_for bits 4 0x0040 in
    let f8 = set_for bits 8 0x0010 in
    let m = without mask 0xDCD0 in
    let spread = and_or_apart 0x1000 (bit_or (bit_or (bit_or m f1) f2) f4) f8 (set-apart bits 8 0x0010 0x1000 refl)
    ∙ and_or_apart 0x1000 (bit_or (bit_or m f1) f2) f4 (set-apart bits 4 0x0040 0x1000 refl)
    ∙ and_or_apart 0x1000 (bit_or m f1) f2 (set-apart bits 2 0x0080 0x1000 refl)
    ∙ and_or_both 0x1000 m f1 (omega arith)
    ∙ ap (λ x. bit_or x (bit_and f1 0x1000)) (and_assoc 0x1000 mask 0x232F ∙ and_zero_r mask) in
    ap (λ n. not (n == 0)) spread ∙ by_test (has_bits bits 1)
  where
    by_test : (b : Bool) → not (bit_or 0 (bit_and (if b then 0x1000 else 0) 0x1000) == 0) ≡ b
    by_test true = refl
    by_test false = refl

-- a mask of two bytes is one after a mark
pub mark-small : (bits mask : ℕ) → marked_mask bits mask < 2 ^ 16
unfolding marked_mask
mark-small bits mask =
    let m = and_le_r mask 0x232F in
    or_lt 16 (bit_or (bit_or (bit_or (without mask 0xDCD0) (set_for bits 1 0x1000)) (set_for bits 2 0x0080)) (set_for bits 4 0x0040)) (set_for bits 8 0x0010)
    (or_lt 16 (bit_or (bit_or (without mask 0xDCD0) (set_for bits 1 0x1000)) (set_for bits 2 0x0080)) (set_for bits 4 0x0040)
    (or_lt 16 (bit_or (without mask 0xDCD0) (set_for bits 1 0x1000)) (set_for bits 2 0x0080)
    (or_lt 16 (without mask 0xDCD0) (set_for bits 1 0x1000) (omega arith) (set-small bits 1 0x1000 (omega arith)))
    (set-small bits 2 0x0080 (omega arith))) (set-small bits 4 0x0040 (omega arith))) (set-small bits 8 0x0010 (omega arith))

-- the low eleven bits of infomask2 count the columns
low : (a : ℕ) → a % 2 ^ 11 ≡ bit_and a 0x07FF
low a = sym (and_mask a 11)

pub without-columns : (m bits : ℕ) → bit_and (65535 - bits) 0x07FF ≡ 0x07FF → without m bits % 2 ^ 11 ≡ m % 2 ^ 11
without-columns m bits h = low (without m bits) ∙ and_assoc 0x07FF m (65535 - bits) ∙ ap (bit_and m) h ∙ sym (low m)

pub with-columns : (m flag : ℕ) → bit_and flag 0x07FF ≡ 0 → bit_or m flag % 2 ^ 11 ≡ m % 2 ^ 11
with-columns m flag h = low (bit_or m flag) ∙ and_or_apart 0x07FF m flag h ∙ sym (low m)

pub mark-columns : (bits m : ℕ) → marked_mask2 bits m % 2 ^ 11 ≡ m % 2 ^ 11
unfolding marked_mask2
mark-columns bits m =
    with-columns (without m 0x2000) (set_for bits 16 0x2000) (set-apart bits 16 0x2000 0x07FF refl) ∙ without-columns m 0x2000 refl

pub mark2-small : (bits m : ℕ) → marked_mask2 bits m < 2 ^ 16
unfolding marked_mask2
mark2-small bits m =
    let a = and_le_r m (65535 - 0x2000) in
    or_lt 16 (without m 0x2000) (set_for bits 16 0x2000) (omega arith) (set-small bits 16 0x2000 (omega arith))
