use Rattle.std.proofs.Common.{arith}
use Rattle.heap_page.proofs.Overwrite.{tuple-long}
use Rattle.heap_page.proofs.typed_page.HeapPage.check_head.Goals as goal

pub overflow_sub-bytes : goal.overflow_sub-bytes
overflow_sub-bytes c = omega (arith, tuple-long c.in-Normal.bytes.now c.in-Normal.ensures.rule)

pub part-requires : goal.part-requires
part-requires c = omega (arith, tuple-long c.in-Normal.bytes.now c.in-Normal.ensures.rule)
