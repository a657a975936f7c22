-- Each table against the definition, entry by entry.
use Rattle.std.proofs.Common.{◌≡◌, ◌<◌, ℕ, List, get_or, map, refl, ap, ◌∙◌, zero-add}
use Rattle.std.specs.List.{range_with_len}
use Rattle.std.proofs.lemmas.List.FromFn.{get_or-map-range_with_len}
use Rattle.pg_crc32c.specs.declared.tables.TheConstants.{AFTER_1, AFTER_2, AFTER_3, AFTER_4, AFTER_5, AFTER_6, AFTER_7, AFTER_8}
use Rattle.pg_crc32c.specs.declared.far_tables.TheConstants.{AFTER_9, AFTER_10, AFTER_11, AFTER_12, AFTER_13, AFTER_14, AFTER_15, AFTER_16}
use Rattle.pg_crc32c.specs.Crc32c.{after_bits}

-- a table that has the division of each byte, at one of them
entry : (table : List ℕ) (n : ℕ) → table ≡ map (after_bits n) (range_with_len 0 256) → (low : ℕ) → low < 256 → get_or table low 0 ≡ after_bits n low
entry table n e low h = ap (λ t. get_or t low 0) e ∙ get_or-map-range_with_len (after_bits n) 0 256 low low 0 h (zero-add low)

table_1 : AFTER_1 ≡ map (after_bits 8) (range_with_len 0 256)
unfolding after_bits
table_1 = refl

table_2 : AFTER_2 ≡ map (after_bits 16) (range_with_len 0 256)
unfolding after_bits
table_2 = refl

table_3 : AFTER_3 ≡ map (after_bits 24) (range_with_len 0 256)
unfolding after_bits
table_3 = refl

table_4 : AFTER_4 ≡ map (after_bits 32) (range_with_len 0 256)
unfolding after_bits
table_4 = refl

table_5 : AFTER_5 ≡ map (after_bits 40) (range_with_len 0 256)
unfolding after_bits
table_5 = refl

table_6 : AFTER_6 ≡ map (after_bits 48) (range_with_len 0 256)
unfolding after_bits
table_6 = refl

table_7 : AFTER_7 ≡ map (after_bits 56) (range_with_len 0 256)
unfolding after_bits
table_7 = refl

table_8 : AFTER_8 ≡ map (after_bits 64) (range_with_len 0 256)
unfolding after_bits
table_8 = refl

table_9 : AFTER_9 ≡ map (after_bits 72) (range_with_len 0 256)
unfolding after_bits
table_9 = refl

table_10 : AFTER_10 ≡ map (after_bits 80) (range_with_len 0 256)
unfolding after_bits
table_10 = refl

table_11 : AFTER_11 ≡ map (after_bits 88) (range_with_len 0 256)
unfolding after_bits
table_11 = refl

table_12 : AFTER_12 ≡ map (after_bits 96) (range_with_len 0 256)
unfolding after_bits
table_12 = refl

table_13 : AFTER_13 ≡ map (after_bits 104) (range_with_len 0 256)
unfolding after_bits
table_13 = refl

table_14 : AFTER_14 ≡ map (after_bits 112) (range_with_len 0 256)
unfolding after_bits
table_14 = refl

table_15 : AFTER_15 ≡ map (after_bits 120) (range_with_len 0 256)
unfolding after_bits
table_15 = refl

table_16 : AFTER_16 ≡ map (after_bits 128) (range_with_len 0 256)
unfolding after_bits
table_16 = refl

pub entry-1 : (low : ℕ) → low < 256 → get_or AFTER_1 low 0 ≡ after_bits 8 low
entry-1 = entry AFTER_1 8 table_1

pub entry-2 : (low : ℕ) → low < 256 → get_or AFTER_2 low 0 ≡ after_bits 16 low
entry-2 = entry AFTER_2 16 table_2

pub entry-3 : (low : ℕ) → low < 256 → get_or AFTER_3 low 0 ≡ after_bits 24 low
entry-3 = entry AFTER_3 24 table_3

pub entry-4 : (low : ℕ) → low < 256 → get_or AFTER_4 low 0 ≡ after_bits 32 low
entry-4 = entry AFTER_4 32 table_4

pub entry-5 : (low : ℕ) → low < 256 → get_or AFTER_5 low 0 ≡ after_bits 40 low
entry-5 = entry AFTER_5 40 table_5

pub entry-6 : (low : ℕ) → low < 256 → get_or AFTER_6 low 0 ≡ after_bits 48 low
entry-6 = entry AFTER_6 48 table_6

pub entry-7 : (low : ℕ) → low < 256 → get_or AFTER_7 low 0 ≡ after_bits 56 low
entry-7 = entry AFTER_7 56 table_7

pub entry-8 : (low : ℕ) → low < 256 → get_or AFTER_8 low 0 ≡ after_bits 64 low
entry-8 = entry AFTER_8 64 table_8

pub entry-9 : (low : ℕ) → low < 256 → get_or AFTER_9 low 0 ≡ after_bits 72 low
entry-9 = entry AFTER_9 72 table_9

pub entry-10 : (low : ℕ) → low < 256 → get_or AFTER_10 low 0 ≡ after_bits 80 low
entry-10 = entry AFTER_10 80 table_10

pub entry-11 : (low : ℕ) → low < 256 → get_or AFTER_11 low 0 ≡ after_bits 88 low
entry-11 = entry AFTER_11 88 table_11

pub entry-12 : (low : ℕ) → low < 256 → get_or AFTER_12 low 0 ≡ after_bits 96 low
entry-12 = entry AFTER_12 96 table_12

pub entry-13 : (low : ℕ) → low < 256 → get_or AFTER_13 low 0 ≡ after_bits 104 low
entry-13 = entry AFTER_13 104 table_13

pub entry-14 : (low : ℕ) → low < 256 → get_or AFTER_14 low 0 ≡ after_bits 112 low
entry-14 = entry AFTER_14 112 table_14

pub entry-15 : (low : ℕ) → low < 256 → get_or AFTER_15 low 0 ≡ after_bits 120 low
entry-15 = entry AFTER_15 120 table_15

pub entry-16 : (low : ℕ) → low < 256 → get_or AFTER_16 low 0 ≡ after_bits 128 low
entry-16 = entry AFTER_16 128 table_16
