use Rattle.std.proofs.Common.{arith}
use Rattle.heap_page.proofs.Header.{laid-page, length-items}
use Rattle.heap_page.proofs.Rooms.{packed-room, packed-multiple, packed-more, packed-all}
use Rattle.heap_page.proofs.room.compact.Goals as goal

pub lines-k-end-requires : goal.lines-k-end-requires
lines-k-end-requires c = laid-page c.args.page.now c.told-page c.requires.laid

pub add_line-requires-clause-from : goal.add_line-requires-clause-from
add_line-requires-clause-from c = laid-page c.args.page.now c.told-page c.requires.laid

pub add_line-requires-clause-line : goal.add_line-requires-clause-line
add_line-requires-clause-line c = omega (arith, length-items c.args.page.now)

pub add_line-requires-clause-multiple : goal.add_line-requires-clause-multiple
add_line-requires-clause-multiple c =
    packed-multiple c.args.page.now c.loop-k.packed c.loop-k.k (omega arith) c.loop-k.invariant.upper

pub add_line-requires-clause-room : goal.add_line-requires-clause-room
add_line-requires-clause-room c =
    packed-room c.args.page.now c.loop-k.packed c.loop-k.k (omega arith) c.requires.room c.loop-k.invariant.upper

pub loop-k-preserved : goal.loop-k-preserved
loop-k-preserved c =
    packed-more c.args.page.now c.loop-k.packed c.add_line.new.page c.loop-k.k (omega arith) c.loop-k.invariant c.add_line.ensures

pub returns : goal.returns
returns c = packed-all c.args.page.now c.loop-k.packed c.loop-k.k (omega arith) c.loop-k.invariant
