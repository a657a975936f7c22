use Rattle.std.proofs.Common.{arith}
use Rattle.heap_page.proofs.Changes.{bounds, lines-added}
use Rattle.heap_page.proofs.pointer.add_lines.Goals as goal

pub overflow_mul-end : goal.overflow_mul-end
overflow_mul-end c = let b = bounds c.args.page.now c.requires.laid in omega arith

pub overflow_add-end : goal.overflow_add-end
overflow_add-end c = let b = bounds c.args.page.now c.requires.laid in omega arith

pub write_zeros-requires-clause-order : goal.write_zeros-requires-clause-order
write_zeros-requires-clause-order c = let b = bounds c.args.page.now c.requires.laid in omega arith

pub write_zeros-requires-clause-inside : goal.write_zeros-requires-clause-inside
write_zeros-requires-clause-inside c = let b = bounds c.args.page.now c.requires.laid in omega arith

pub overflow_cast-end : goal.overflow_cast-end
overflow_cast-end c = let b = bounds c.args.page.now c.requires.laid in omega arith

pub returns : goal.returns
returns c =
    rw (c.write_u16.ensures, c.write_zeros.ensures, c.u16_at-start.ensures)
    (lines-added c.args.page.now c.args.count c.requires.laid c.told-page c.requires.more c.requires.room)
