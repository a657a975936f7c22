-- Parts of bytes are bytes, and so is what a number is written as; a number of bytes has its size.
use Rattle.std.proofs.Common.{ℕ, zero, suc, ◌^◌, ◌<◌, List, [], ◌∷◌, ◌++◌, length, take, drop, slice_index, inl, inr, arith}
use Rattle.std.specs.Int.{byte_at, bytes_low_first}
use Rattle.std.proofs.lemmas.Bool.{cases_lt}
use Rattle.std.proofs.lemmas.List.{get_or_past}
use Rattle.std.proofs.lemmas.List.Elements.{All-append, All-cons, All-drop, All-nil, All-take}
use Rattle.byteorder.specs.Endian.{little_bytes}
use Rattle.byteorder.specs.Numbers.{little_from-lt}
use Rattle.pg_types.specs.Bytes.{AreBytes}
use Rattle.pg_types.specs.Numbers.{number_at}

pub drop-are : (n : ℕ) (bytes : List ℕ) → AreBytes bytes → AreBytes (drop n bytes)
drop-are n bytes all = All-drop (λ byte. byte < 256) n bytes all

pub take-are : (n : ℕ) (bytes : List ℕ) → AreBytes bytes → AreBytes (take n bytes)
take-are n bytes all = All-take (λ byte. byte < 256) n bytes all

pub both-bytes : (xs ys : List ℕ) → AreBytes xs → AreBytes ys → AreBytes (xs ++ ys)
both-bytes xs ys h k = All-append (λ byte. byte < 256) xs ys h k

-- a list of which each place has a byte
pub bytes-are : (bytes : List ℕ) → ((k : ℕ) → slice_index bytes k < 256) → AreBytes bytes
bytes-are [] small = All-nil (λ byte. byte < 256)
bytes-are (b ∷ bytes) small = All-cons (λ byte. byte < 256) b bytes (small zero) (bytes-are bytes (λ k. small (suc k)))

-- each of bytes is below 256, and so is what stands past their end
pub byte-below : (bytes : List ℕ) → AreBytes bytes → (k : ℕ) → slice_index bytes k < 256
byte-below bytes all k = elim (cases_lt k (length bytes)) [
  | inl within ↦ all k 0 within
  | inr past ↦ rw (get_or_past bytes k 0 past) (omega arith)
]

-- a number of bytes has its size
pub number-fits : (n : ℕ) (bytes : List ℕ) (at : ℕ) → AreBytes bytes → number_at n bytes at < 256 ^ n
unfolding number_at
number-fits n bytes at all = little_from-lt 0 n (drop at bytes) (byte-below (drop at bytes) (drop-are at bytes all))

byte_at-small : (i x : ℕ) → byte_at i x < 256
byte_at-small zero x = omega arith
byte_at-small (suc i) x = omega arith

bytes-from : (i n x : ℕ) → AreBytes (bytes_low_first i n x)
bytes-from i zero x = All-nil (λ byte. byte < 256)
bytes-from i (suc n) x = All-cons (λ byte. byte < 256) (byte_at i x) (bytes_low_first (suc i) n x) (byte_at-small i x) (bytes-from (suc i) n x)

-- what a number is written as
pub number-bytes : (n x : ℕ) → AreBytes (little_bytes n x)
number-bytes n x = bytes-from 0 n x
