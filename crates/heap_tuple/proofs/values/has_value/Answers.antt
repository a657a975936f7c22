use Rattle.std.proofs.Common.{arith}
use Rattle.heap_tuple.proofs.TupleFacts.{nulls_inside}
use Rattle.heap_tuple.proofs.values.has_value.Goals as goal

pub bounds-bytes-i : goal.bounds-bytes-i
bounds-bytes-i c = grind (arith, nulls_inside c.args.tuple.now c.args.i c.bytes.ensures.tuple c.requires)
