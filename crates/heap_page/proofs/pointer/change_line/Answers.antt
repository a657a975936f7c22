use Rattle.std.proofs.Common.{arith}
use Rattle.heap_page.proofs.Changes.{bounds, line-changed}
use Rattle.heap_page.proofs.pointer.change_line.Goals as goal

pub overflow_mul-k : goal.overflow_mul-k
overflow_mul-k c = let b = bounds c.args.page.now c.requires.laid in omega arith

pub overflow_add-k : goal.overflow_add-k
overflow_add-k c = let b = bounds c.args.page.now c.requires.laid in omega arith

pub write_u32-requires : goal.write_u32-requires
write_u32-requires c = let b = bounds c.args.page.now c.requires.laid in omega arith

pub returns : goal.returns
returns c =
    rw c.write_u32.ensures
    (line-changed c.args.page.now c.args.k c.empty_pointer.result _ c.requires.laid c.told-page c.requires.line (omega arith) c.empty_pointer.ensures.empty c.empty_pointer.ensures.item)
