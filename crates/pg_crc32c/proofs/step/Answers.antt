use Rattle.std.proofs.Common.{◌%◌, lit<}
use Rattle.std.specs.Int.Bits.{bit_xor}
use Rattle.std.proofs.lemmas.Nat.{mod_below}
use Rattle.pg_crc32c.proofs.Division.{after_byte-by_table}
use Rattle.pg_crc32c.proofs.Entries.{entry-1}
use Rattle.pg_crc32c.proofs.step.Goals as goal

pub returns : goal.returns
returns c =
    let low = bit_xor c.args.crc c.args.byte % 256 in
    let law = after_byte-by_table c.args.crc c.args.byte c.ranges.byte.fits in
    let read = entry-1 low (mod_below (bit_xor c.args.crc c.args.byte) 256 (lit< tt)) in
    cc
