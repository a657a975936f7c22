use Rattle.std.proofs.Common.{◌/◌, ◌%◌, ◌^◌, ◌<◌, ℕ, lit<}
use Rattle.std.proofs.lemmas.Nat.{mod_below, shr_below}
use Rattle.pg_crc32c.proofs.Division.{after_bits-by_four_tables}
use Rattle.pg_crc32c.proofs.Entries.{entry-1, entry-2, entry-3, entry-4}
use Rattle.pg_crc32c.proofs.after_half_word.Goals as goal

pub returns : goal.returns
returns c =
    let x = c.args.word in
    let low : (y : ℕ) → y % 256 < 256 = λ y. mod_below y 256 (lit< tt) in
    let top : x / 2 ^ 24 < 256 = shr_below x 8 24 c.ranges.word.fits in
    let e1 = entry-1 (x / 2 ^ 24) top in
    let e2 = entry-2 (x / 2 ^ 16 % 256) (low (x / 2 ^ 16)) in
    let e3 = entry-3 (x / 2 ^ 8 % 256) (low (x / 2 ^ 8)) in
    let e4 = entry-4 (x % 256) (low x) in
    let law = after_bits-by_four_tables x in
    cc
