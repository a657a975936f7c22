use Rattle.std.proofs.Common.{◌/◌, ◌%◌, ◌^◌, ◌<◌, ℕ, lit<}
use Rattle.std.proofs.lemmas.Nat.{mod_below, shr_below}
use Rattle.pg_crc32c.proofs.Division.{after_bits-by_tables}
use Rattle.pg_crc32c.proofs.Entries.{entry-1, entry-2, entry-3, entry-4, entry-5, entry-6, entry-7, entry-8}
use Rattle.pg_crc32c.proofs.after_word.Goals as goal

pub returns : goal.returns
returns c =
    let x = c.args.word in
    let low : (y : ℕ) → y % 256 < 256 = λ y. mod_below y 256 (lit< tt) in
    let top : x / 2 ^ 56 < 256 = shr_below x 8 56 c.ranges.word.fits in
    let e1 = entry-1 (x / 2 ^ 56) top in
    let e2 = entry-2 (x / 2 ^ 48 % 256) (low (x / 2 ^ 48)) in
    let e3 = entry-3 (x / 2 ^ 40 % 256) (low (x / 2 ^ 40)) in
    let e4 = entry-4 (x / 2 ^ 32 % 256) (low (x / 2 ^ 32)) in
    let e5 = entry-5 (x / 2 ^ 24 % 256) (low (x / 2 ^ 24)) in
    let e6 = entry-6 (x / 2 ^ 16 % 256) (low (x / 2 ^ 16)) in
    let e7 = entry-7 (x / 2 ^ 8 % 256) (low (x / 2 ^ 8)) in
    let e8 = entry-8 (x % 256) (low x) in
    let law = after_bits-by_tables x in
    cc
