use Rattle.heap_redo.proofs.Again.{record-repeated}
use Rattle.heap_redo.proofs.law.repeats.Goals as goal

pub returns : goal.returns
returns c rec known old new result stands = record-repeated rec known old new result stands
