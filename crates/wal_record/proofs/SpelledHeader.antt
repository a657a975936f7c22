-- Headers: what is spelled is read, and what is read is spelled.
use Rattle.std.proofs.Common.{◌≡◌, ℕ, ◌+◌, ◌^◌, ◌<◌, ◌≤◌, List, ◌++◌, length, take, drop, slice_index, refl, ap, ◌∙◌, arith}
use Rattle.byteorder.specs.Endian.{little_bytes}
use Rattle.std.proofs.lemmas.List.{get_or-drop}
use Rattle.pg_types.specs.Numbers.{number_at}
use Rattle.pg_types.specs.Bytes.{AreBytes}
use Rattle.wal_record.specs.Spelling.{one_byte, two_bytes, four_bytes, front_of}
use Rattle.pg_types.proofs.SpelledNumbers.{read_back, spelled_at}

-- a text with a header
abbrev pub text_of : ℕ → ℕ → ℕ → ℕ → ℕ → ℕ → ℕ → List ℕ → List ℕ
text_of total xid prev info manager padding crc behind = front_of total xid prev info manager padding ++ (four_bytes crc ++ behind)

-- what stands where in a text with a header
pub record HeaderIs (text : List ℕ) (total xid prev info manager padding crc : ℕ) (behind : List ℕ) : Type 0 where
  pub total_is : number_at 4 text 0 ≡ total
  pub xid_is : number_at 4 text 4 ≡ xid
  pub prev_is : number_at 8 text 8 ≡ prev
  pub info_is : slice_index text 16 ≡ info
  pub manager_is : slice_index text 17 ≡ manager
  pub crc_is : number_at 4 text 20 ≡ crc
  pub front_is : take 20 text ≡ front_of total xid prev info manager padding
  pub behind_is : drop 24 text ≡ behind
  pub long_enough : length text ≡ 24 + length behind

pub header-again : (total xid prev info manager padding crc : ℕ) (behind : List ℕ) → total < 2 ^ 32 → xid < 2 ^ 32 → prev < 2 ^ 64 → info < 2 ^ 8 → manager < 2 ^ 8 → padding < 2 ^ 16 → crc < 2 ^ 32
    → HeaderIs (text_of total xid prev info manager padding crc behind) total xid prev info manager padding crc behind
unfolding number_at
header-again total xid prev info manager padding crc behind t x p i m d c =
    let text = text_of total xid prev info manager padding crc behind in
    record {
      total_is = read_back 4 total (drop 4 text) t;
      xid_is = read_back 4 xid (drop 8 text) x;
      prev_is = read_back 8 prev (drop 16 text) p;
      info_is = omega arith;
      manager_is = omega arith;
      crc_is = read_back 4 crc behind c;
      front_is = refl;
      behind_is = refl;
      long_enough = omega arith;
    }

number_at-one : (bytes : List ℕ) (at : ℕ) → number_at 1 bytes at ≡ slice_index bytes at
unfolding number_at
number_at-one bytes at =
    let here : slice_index (drop at bytes) 0 ≡ slice_index bytes (at + 0) = get_or-drop at bytes 0 0 in
    let place : slice_index bytes (at + 0) ≡ slice_index bytes at = ap (λ (k : ℕ). slice_index bytes k) (omega arith) in
    omega (arith, here, place)

-- bytes that are long enough have a header
pub header-takes : (bytes : List ℕ) → AreBytes bytes → 24 ≤ length bytes
    → bytes ≡ text_of (number_at 4 bytes 0) (number_at 4 bytes 4) (number_at 8 bytes 8) (slice_index bytes 16) (slice_index bytes 17) (number_at 2 bytes 18) (number_at 4 bytes 20) (drop 24 bytes)
header-takes bytes all h =
    let t = spelled_at 4 bytes 0 all (omega arith) in
    let x = spelled_at 4 bytes 4 all (omega arith) in
    let p = spelled_at 8 bytes 8 all (omega arith) in
    let i = spelled_at 1 bytes 16 all (omega arith) ∙ ap (λ (b : ℕ). one_byte b ++ drop 17 bytes) (number_at-one bytes 16) in
    let m = spelled_at 1 bytes 17 all (omega arith) ∙ ap (λ (b : ℕ). one_byte b ++ drop 18 bytes) (number_at-one bytes 17) in
    let d = spelled_at 2 bytes 18 all (omega arith) in
    let c = spelled_at 4 bytes 20 all (omega arith) in
    t ∙ ap (λ (w : List ℕ). four_bytes (number_at 4 bytes 0) ++ w)
    (x ∙ ap (λ (w : List ℕ). four_bytes (number_at 4 bytes 4) ++ w)
    (p ∙ ap (λ (w : List ℕ). little_bytes 8 (number_at 8 bytes 8) ++ w)
    (i ∙ ap (λ (w : List ℕ). one_byte (slice_index bytes 16) ++ w)
    (m ∙ ap (λ (w : List ℕ). one_byte (slice_index bytes 17) ++ w)
    (d ∙ ap (λ (w : List ℕ). two_bytes (number_at 2 bytes 18) ++ w) c)))))
