use Rattle.std.proofs.Common.{arith}
use Rattle.heap_page.proofs.Changes.{bounds, tuple-pointed}
use Rattle.heap_page.proofs.pointer.point_line.Goals as goal

pub overflow_mul-pointer : goal.overflow_mul-pointer
overflow_mul-pointer c = let b = bounds c.args.page.now c.requires.laid in omega arith

pub overflow_add-pointer-2 : goal.overflow_add-pointer-2
overflow_add-pointer-2 c = let b = bounds c.args.page.now c.requires.laid in omega arith

pub write_u32-requires : goal.write_u32-requires
write_u32-requires c = let b = bounds c.args.page.now c.requires.laid in omega arith

pub returns : goal.returns
returns c =
    let b = bounds c.args.page.now c.requires.laid in
    rw (c.write_u16.ensures, c.write_u32.ensures)
    (tuple-pointed c.args.page.now c.args.k c.args.at c.args.length c.requires.laid c.told-page c.requires.line c.requires.multiple c.requires.past c.requires.room (omega arith) c.requires.tuple)
