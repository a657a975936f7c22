use Rattle.std.proofs.Common.{arith}
use Rattle.pg_types.proofs.Slashes.{hex_small}
use Rattle.pg_types.proofs.read.read_hex.Goals as goal

pub overflow_mul-value : goal.overflow_mul-value
overflow_mul-value c = omega (arith, hex_small c.loop-byte.byte-index 8 c.loop-byte.value (omega arith) c.loop-byte.invariant.small)

pub overflow_add-value : goal.overflow_add-value
overflow_add-value c = omega (arith, hex_small c.loop-byte.byte-index 8 c.loop-byte.value (omega arith) c.loop-byte.invariant.small)

pub returns-clause-small : goal.returns-clause-small
returns-clause-small c = omega (arith, hex_small c.loop-byte.byte-index 8 c.loop-byte.value (omega arith) c.loop-byte.invariant.small)
