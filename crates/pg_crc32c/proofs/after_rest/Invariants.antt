use Rattle.std.proofs.Common.{◌≡◌, fold, take}
use Rattle.pg_crc32c.specs.Crc32c.{after_byte}
use Rattle.pg_crc32c.proofs.after_rest.Given as goal

abbrev pub invariant-loop-byte : goal.invariant-loop-byte
invariant-loop-byte l = l.state ≡ fold after_byte l.crc (take l.byte-index l.bytes)
