use Rattle.std.proofs.Common.{◌+◌, ◌++◌, length, arith}
use Rattle.std.proofs.lemmas.List.{length-append}
use Rattle.heap_page.proofs.Written.{length-written, written-written, part-written}
use Rattle.heap_page.proofs.Changes.{bounds, hole-written}
use Rattle.heap_page.proofs.pointer.write_tuple.Goals as goal

pub write_bytes-requires : goal.write_bytes-requires
write_bytes-requires c = let b = bounds c.args.page.now c.requires.laid in omega arith

pub overflow_add-at : goal.overflow_add-at
overflow_add-at c = let b = bounds c.args.page.now c.requires.laid in omega arith

pub write_bytes-requires-2 : goal.write_bytes-requires-2
write_bytes-requires-2 c =
    let b = bounds c.args.page.now c.requires.laid in
    let e = length-written c.args.page.now c.args.at c.args.head.now (omega arith) in
    rw c.write_bytes.ensures (omega (arith, e))

pub returns-clause-same : goal.returns-clause-same
returns-clause-same c =
    let b = bounds c.args.page.now c.requires.laid in
    let both = length-append c.args.head.now c.args.rest.now in
    rw (c.write_bytes-2.ensures, c.write_bytes.ensures)
    (rw (written-written c.args.page.now c.args.at (c.args.at + length c.args.head.now) c.args.head.now c.args.rest.now (omega arith) (omega arith))
    (hole-written c.args.page.now c.args.at (c.args.head.now ++ c.args.rest.now) c.requires.laid c.told-page c.requires.past (omega (arith, both))))

pub returns-clause-tuple : goal.returns-clause-tuple
returns-clause-tuple c =
    let b = bounds c.args.page.now c.requires.laid in
    let both = length-append c.args.head.now c.args.rest.now in
    rw (c.write_bytes-2.ensures, c.write_bytes.ensures)
    (rw (written-written c.args.page.now c.args.at (c.args.at + length c.args.head.now) c.args.head.now c.args.rest.now (omega arith) (omega arith), ← both)
    (part-written c.args.page.now c.args.at (c.args.head.now ++ c.args.rest.now) (omega (arith, both))))
