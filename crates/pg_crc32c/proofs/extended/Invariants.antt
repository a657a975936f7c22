use Rattle.std.proofs.Common.{◌≡◌, ◌≤◌, ◌-◌, fold, take, length}
use Rattle.pg_crc32c.specs.Crc32c.{after_byte}
use Rattle.pg_crc32c.proofs.extended.Given as goal

abbrev pub invariant-loop-at : goal.invariant-loop-at
invariant-loop-at l = record { within : l.at ≤ length l.bytes; joined : l.state ≡ fold after_byte l.crc (take l.at l.bytes) }

abbrev pub decreases-loop-at : goal.decreases-loop-at
decreases-loop-at l = length l.bytes - l.at
