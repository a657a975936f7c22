use Rattle.std.proofs.Common.{arith}
use Rattle.heap_tuple.proofs.TupleFacts.{tuple_facts}
use Rattle.heap_redo.proofs.version.user_data.Goals as goal

pub bounds-bytes-22 : goal.bounds-bytes-22
bounds-bytes-22 c = let facts = tuple_facts c.in-Normal.bytes.now c.in-Normal.ensures.rule in omega (arith, facts.header_fits)

pub slice_bounds-result-count : goal.slice_bounds-result-count
slice_bounds-result-count c = let facts = tuple_facts c.in-Normal.bytes.now c.in-Normal.ensures.rule in omega (arith, facts.inside)

pub slice_bounds-result-start : goal.slice_bounds-result-start
slice_bounds-result-start c = let facts = tuple_facts c.in-Normal.bytes.now c.in-Normal.ensures.rule in omega (arith, facts.inside)
