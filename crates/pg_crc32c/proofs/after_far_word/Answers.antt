use Rattle.std.proofs.Common.{◌/◌, ◌%◌, ◌^◌, ◌<◌, ℕ, lit<}
use Rattle.std.proofs.lemmas.Nat.{mod_below, shr_below}
use Rattle.pg_crc32c.proofs.Division.{after_bits-by_far_tables}
use Rattle.pg_crc32c.proofs.Entries.{entry-9, entry-10, entry-11, entry-12, entry-13, entry-14, entry-15, entry-16}
use Rattle.pg_crc32c.proofs.after_far_word.Goals as goal

pub returns : goal.returns
returns c =
    let x = c.args.word in
    let low : (y : ℕ) → y % 256 < 256 = λ y. mod_below y 256 (lit< tt) in
    let top : x / 2 ^ 56 < 256 = shr_below x 8 56 c.ranges.word.fits in
    let e9 = entry-9 (x / 2 ^ 56) top in
    let e10 = entry-10 (x / 2 ^ 48 % 256) (low (x / 2 ^ 48)) in
    let e11 = entry-11 (x / 2 ^ 40 % 256) (low (x / 2 ^ 40)) in
    let e12 = entry-12 (x / 2 ^ 32 % 256) (low (x / 2 ^ 32)) in
    let e13 = entry-13 (x / 2 ^ 24 % 256) (low (x / 2 ^ 24)) in
    let e14 = entry-14 (x / 2 ^ 16 % 256) (low (x / 2 ^ 16)) in
    let e15 = entry-15 (x / 2 ^ 8 % 256) (low (x / 2 ^ 8)) in
    let e16 = entry-16 (x % 256) (low x) in
    let law = after_bits-by_far_tables x in
    cc
