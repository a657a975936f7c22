use Rattle.std.proofs.Common.{refl}
use Rattle.heap_page.proofs.Restored.{zeros-page}
use Rattle.heap_page.proofs.typed_page.HeapPage.zeros.Goals as goal

pub invariant_of-result : goal.invariant_of-result
invariant_of-result c = zeros-page 8192 refl
