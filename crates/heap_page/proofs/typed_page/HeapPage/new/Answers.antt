use Rattle.heap_page.proofs.Parted.{zeros_at}
use Rattle.heap_page.proofs.typed_page.HeapPage.new.Goals as goal

pub begin-requires : goal.begin-requires
begin-requires c = λ i. zeros_at 8192 i
