-- How positions and segments are written.
use Rattle.std.specs.Prelude.{ℕ, zero, suc, ◌≡◌, ◌==◌, ◌<◌, ◌+◌, ◌*◌, length, ◌≤◌, ◌^◌, ◌/◌, ◌%◌, Bool, List, [], ◌∷◌, ◌++◌, true, IsTrue}
use Rattle.std.specs.List.{list_any, range_with_len}
use Rattle.std.specs.Fmt.{digits, digit_glyph}
use Rattle.std.specs.Str.Parse.{AllDigits, digits_value}

-- a segment has a power of two of bytes, from 1 MiB to 1 GiB (IsValidWalSegSize, xlog_internal.h)
unfoldable pub is_segment_size : ℕ → Bool
is_segment_size size = list_any (λ power. size == 2 ^ power) (range_with_len 20 11)

abbrev pub IsSegmentSize : ℕ → Type 0
IsSegmentSize size = IsTrue (is_segment_size size)

-- a position is written as its high and low 32 bits in upper-case hex without leading zeros (%X/%X, xlogdefs.h)
unfoldable pub lsn_text : ℕ → List ℕ
lsn_text at = digits 16 true (at / 2 ^ 32) ++ 47 ∷ digits 16 true (at % 2 ^ 32)

-- the lowest hex digits of n, in upper case, so many of them
unfoldable pub fixed_hex : ℕ → ℕ → List ℕ
fixed_hex zero n = []
fixed_hex (suc count) n = fixed_hex count (n / 16) ++ digit_glyph true (n % 16) ∷ []

-- a segment's file name: the timeline, the segment's number divided by the segments in 2^32 bytes, and the remainder,
-- each as eight hex digits (XLogFileName, xlog_internal.h)
unfoldable pub segment_name_text : ℕ → ℕ → ℕ → List ℕ
segment_name_text tli segment size =
    let per = 2 ^ 32 / size in fixed_hex 8 tli ++ fixed_hex 8 (segment / per) ++ fixed_hex 8 (segment % per)

-- a half of a position as it is read: one to eight hex digits, in either case
abbrev pub IsShortHex : List ℕ → Type 0
IsShortHex text = (0 < length text) × (length text ≤ 8) × AllDigits 16 text

-- a text that reads as a position: its high and low 32 bits in hex around a slash (pg_lsn_in_internal, pg_lsn.c)
pub record SpellsLsn (text : List ℕ) (at : ℕ) : Type 0 where
  pub high : List ℕ
  pub low : List ℕ
  pub halves : text ≡ high ++ 47 ∷ low
  pub high_hex : IsShortHex high
  pub low_hex : IsShortHex low
  pub value : at ≡ digits_value 16 high * 2 ^ 32 + digits_value 16 low
