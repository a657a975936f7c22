-- Two bits of a byte, written and read back.
use Rattle.std.proofs.Common.{◌≡◌, ◌≢◌, ℕ, ◌-◌, ◌*◌, ◌/◌, ◌%◌, ◌^◌, ◌<◌, ◌==◌, Bool, true, eqb, List, length, get_or, set, replicate, refl, sym, ap, ◌∙◌, ⊎_elim, if◌then◌else◌, bit_and, bit_or, arith, get_or-set_same, get_or-set_other}
use Rattle.std.proofs.lemmas.Bool.{agree_below, agree_below_at, eqb-true, eq-eqb, ne_eqb, cases_eq, cases_lt, cond-true, cond-false}
use Rattle.std.proofs.lemmas.List.{get_or-replicate, get_or_past, length-replicate}
use Rattle.std.proofs.lemmas.Nat.{shr_le}
use Rattle.pg_types.specs.declared.status.Status.{Status}
use Rattle.pg_types.specs.declared.status.Status.TheVariants.{None, Committed, Aborted, Sub}
use Rattle.commit_log.specs.Packed.{bits_at, bits_of, status_of_bits}

-- a byte with two bits at one of its four places, as the code computes it
abbrev pub written : ℕ → ℕ → ℕ → ℕ
written byte place bits = bit_or (bit_and byte (255 - 3 * 2 ^ (2 * place) % 256)) (bits * 2 ^ (2 * place) % 256)

-- whether place m of the written byte reads as it has to
abbrev is_read : ℕ → ℕ → ℕ → ℕ → Bool
is_read byte place bits m = written byte place bits / 2 ^ (2 * m) % 4 == (if m == place then bits else byte / 2 ^ (2 * m) % 4)

abbrev always : ℕ → Bool
always _ = true

-- the same at every m, then at every two bits, then at every place
abbrev reads_at : ℕ → ℕ → ℕ → Bool
reads_at byte place bits = agree_below (is_read byte place bits) always 4

abbrev reads_bits : ℕ → ℕ → Bool
reads_bits byte place = agree_below (reads_at byte place) always 4

abbrev reads_byte : ℕ → Bool
reads_byte byte = agree_below (reads_bits byte) always 4

-- 256 bytes, 4 places, 4 values and 4 places to read, each computed
all_read : agree_below reads_byte always 256 ≡ true
all_read = refl

pub read-written : (byte place bits m : ℕ) → byte < 256 → place < 4 → bits < 4 → m < 4 → written byte place bits / 2 ^ (2 * m) % 4 ≡ if m == place then bits else byte / 2 ^ (2 * m) % 4
read-written byte place bits m a b c d =
    let by_byte = agree_below_at reads_byte always 256 byte all_read a in
    let by_place = agree_below_at (reads_bits byte) always 4 place by_byte b in
    let by_bits = agree_below_at (reads_at byte place) always 4 bits by_place c in
    let by_read = agree_below_at (is_read byte place bits) always 4 m by_bits d in
    eqb-true _ _ by_read

-- a byte that reads as v at place n and as the byte before elsewhere
abbrev pub ReadsAs : ℕ → ℕ → ℕ → ℕ → Type 0
ReadsAs new old place v = (j : ℕ) → j < 4 → new / 2 ^ (2 * j) % 4 ≡ if j == place then v else old / 2 ^ (2 * j) % 4

read_same : (bs : List ℕ) (n b v : ℕ) → n / 4 < length bs → ReadsAs b (get_or bs (n / 4) 0) (n % 4) v → bits_at (set bs (n / 4) b) n ≡ v
unfolding bits_at
read_same bs n b v within reads =
    rw (get_or-set_same bs (n / 4) b 0 within) (reads (n % 4) (omega arith) ∙ cond-true (eqb (n % 4) (n % 4)) v _ (eq-eqb (n % 4) (n % 4) refl))

-- in the same byte
read_beside : (bs : List ℕ) (n b v m : ℕ) → n / 4 < length bs → ReadsAs b (get_or bs (n / 4) 0) (n % 4) v → m / 4 ≡ n / 4 → (m ≡ n → ⊥) → bits_at (set bs (n / 4) b) m ≡ bits_at bs m
unfolding bits_at
read_beside bs n b v m within reads same apart =
    let other : m % 4 ≢ n % 4 = omega arith in
    rw (same, get_or-set_same bs (n / 4) b 0 within) (reads (m % 4) (omega arith) ∙ cond-false (eqb (m % 4) (n % 4)) v _ (ne_eqb (m % 4) (n % 4) other))

read_elsewhere : (bs : List ℕ) (n b m : ℕ) → (m / 4 ≡ n / 4 → ⊥) → bits_at (set bs (n / 4) b) m ≡ bits_at bs m
unfolding bits_at
read_elsewhere bs n b m apart = rw (get_or-set_other bs (n / 4) (m / 4) b 0 apart) refl

read_other : (bs : List ℕ) (n b v m : ℕ) → n / 4 < length bs → ReadsAs b (get_or bs (n / 4) 0) (n % 4) v → (m ≡ n → ⊥) → bits_at (set bs (n / 4) b) m ≡ bits_at bs m
read_other bs n b v m within reads apart =
    ⊎_elim (λ same. read_beside bs n b v m within reads same apart) (λ away. read_elsewhere bs n b m away) (cases_eq (m / 4) (n / 4))

-- the two bits of a status tell it
status_of_bits-bits_of : (s : Status) → status_of_bits (bits_of s) ≡ s
status_of_bits-bits_of None = refl
status_of_bits-bits_of Committed = refl
status_of_bits-bits_of Aborted = refl
status_of_bits-bits_of Sub = refl

pub status-written : (bs : List ℕ) (n b : ℕ) (s : Status) → n / 4 < length bs → ReadsAs b (get_or bs (n / 4) 0) (n % 4) (bits_of s) → (m : ℕ) → status_of_bits (bits_at (set bs (n / 4) b) m) ≡ if m == n then s else status_of_bits (bits_at bs m)
status-written bs n b s within reads m =
    ⊎_elim
    (λ same. let e : bits_at (set bs (n / 4) b) m ≡ bits_of s = rw same (read_same bs n b (bits_of s) within reads) in
    ap status_of_bits e ∙ status_of_bits-bits_of s ∙ sym (cond-true (eqb m n) s _ (eq-eqb m n same)))
    (λ apart. ap status_of_bits (read_other bs n b (bits_of s) m within reads apart) ∙ sym (cond-false (eqb m n) s _ (ne_eqb m n apart)))
    (cases_eq m n)

-- bytes that are all 0 have no status
pub status-blank : (k m : ℕ) → status_of_bits (bits_at (replicate k 0) m) ≡ None
unfolding bits_at
status-blank k m =
    let bytes : List ℕ = replicate k 0 in
    let byte : get_or bytes (m / 4) 0 ≡ 0 =
    ⊎_elim (λ within. get_or-replicate k (m / 4) 0 0 within) (λ past. get_or_past bytes (m / 4) 0 (omega (arith, length-replicate {A = ℕ} k 0))) (cases_lt (m / 4) k) in
    let bits : get_or bytes (m / 4) 0 / 2 ^ (2 * (m % 4)) % 4 ≡ 0 = omega (arith, byte, shr_le (get_or bytes (m / 4) 0) (2 * (m % 4))) in
    ap status_of_bits bits
