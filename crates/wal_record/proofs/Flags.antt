-- The flags of a new block: what each of them says.
use Rattle.std.proofs.Common.{◌≡◌, ℕ, zero, suc, ◌+◌, ◌<◌, Bool, true, false, ◌&&◌, not, cond, refl, arith, bit_and, nat_lt, inl, inr, ◌==◌}
use Rattle.std.proofs.lemmas.Bool.{cases_lt, ltb-true, eqb-true, and_parts}
use Rattle.pg_types.specs.Numbers.{has_bits}
use Rattle.wal_record.specs.New.{flag}

-- the test holds of each number below n
abbrev below : (ℕ → Bool) → ℕ → Bool
below p zero = true
below p (suc n) = p n && below p n

-- and of both truth values
abbrev both : (Bool → Bool) → Bool
both p = p true && p false

below-at : (p : ℕ → Bool) (n f : ℕ) → below p n ≡ true → f < n → p f ≡ true
below-at p zero f h lt = absurd (omega arith)
below-at p (suc n) f h lt =
    let parts = and_parts (p n) (below p n) h in
    elim (cases_lt f n) [
      | inl lower ↦ below-at p n f parts.1 lower
      | inr upper ↦ let e : f ≡ n = omega arith in rw e parts.0
    ]

both-at : (p : Bool → Bool) (b : Bool) → both p ≡ true → p b ≡ true
both-at p true h = (and_parts (p true) (p false) h).0
both-at p false h = (and_parts (p true) (p false) h).1

-- a fork with these flags
abbrev pub value : ℕ → Bool → Bool → Bool → Bool → ℕ
value fork image payload init same = fork + flag image 16 + flag payload 32 + flag init 64 + flag same 128

abbrev same_truth : Bool → Bool → Bool
same_truth a b = cond a b (not b)

abbrev passes : ℕ → ℕ → Bool → Bool → Bool → Bool → Bool
passes flags fork image payload init same =
    (bit_and flags 15 == fork) && (same_truth (has_bits flags 16) image && (same_truth (has_bits flags 32) payload && (same_truth (has_bits flags 64) init && (same_truth (has_bits flags 128) same && nat_lt flags 256))))

pub record FlagsAre (flags fork : ℕ) (image payload init same : Bool) : Type 0 where
  pub fork_is : bit_and flags 15 ≡ fork
  pub image_is : has_bits flags 16 ≡ image
  pub payload_is : has_bits flags 32 ≡ payload
  pub init_is : has_bits flags 64 ≡ init
  pub same_is : has_bits flags 128 ≡ same
  pub fits : flags < 256

truth-from : (a b : Bool) → same_truth a b ≡ true → a ≡ b
truth-from true true h = refl
truth-from true false h = absurd (cc)
truth-from false true h = absurd (cc)
truth-from false false h = refl

read-off : (flags fork : ℕ) (image payload init same : Bool) → passes flags fork image payload init same ≡ true → FlagsAre flags fork image payload init same
read-off flags fork image payload init same h =
    let a = and_parts (bit_and flags 15 == fork) _ h in
    let b = and_parts (same_truth (has_bits flags 16) image) _ a.1 in
    let d = and_parts (same_truth (has_bits flags 32) payload) _ b.1 in
    let e = and_parts (same_truth (has_bits flags 64) init) _ d.1 in
    let g = and_parts (same_truth (has_bits flags 128) same) (nat_lt flags 256) e.1 in
    record {
      fork_is = eqb-true (bit_and flags 15) fork a.0;
      image_is = truth-from (has_bits flags 16) image b.0;
      payload_is = truth-from (has_bits flags 32) payload d.0;
      init_is = truth-from (has_bits flags 64) init e.0;
      same_is = truth-from (has_bits flags 128) same g.0;
      fits = ltb-true flags 256 g.1;
    }

pub flags-are : (fork : ℕ) (image payload init same : Bool) → fork < 16 → FlagsAre (value fork image payload init same) fork image payload init same
flags-are fork image payload init same h =
    let all : below (λ f. both (λ i. both (λ p. both (λ w. both (λ s. passes (value f i p w s) f i p w s))))) 16 ≡ true = refl in
    let a = below-at (λ f. both (λ i. both (λ p. both (λ w. both (λ s. passes (value f i p w s) f i p w s))))) 16 fork all h in
    let b = both-at (λ i. both (λ p. both (λ w. both (λ s. passes (value fork i p w s) fork i p w s)))) image a in
    let d = both-at (λ p. both (λ w. both (λ s. passes (value fork image p w s) fork image p w s))) payload b in
    let e = both-at (λ w. both (λ s. passes (value fork image payload w s) fork image payload w s)) init d in
    let g = both-at (λ s. passes (value fork image payload init s) fork image payload init s) same e in
    read-off (value fork image payload init same) fork image payload init same g
