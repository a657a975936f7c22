use Rattle.std.proofs.Common.{arith}
use Rattle.heap_page.proofs.Changes.{bounds}
use Rattle.heap_page.proofs.Laid.{laid-true}
use Rattle.heap_page.proofs.Overwrite.{head-overwritten, long-tuple}
use Rattle.heap_page.proofs.pointer.overwrite_head.Goals as goal

pub pointer_at-start-requires : goal.pointer_at-start-requires
pointer_at-start-requires c = let b = bounds c.args.page.now c.requires.laid in omega arith

pub write_bytes-requires : goal.write_bytes-requires
write_bytes-requires c =
    let p = (laid-true c.args.page.now c.requires.laid).placed c.args.k c.requires.line c.requires.normal in
    omega (arith, c.told-page, c.told-head, c.pointer_at-start.ensures.offset, p.inside, long-tuple c.args.page.now _ p c.told-page)

pub returns : goal.returns
returns c =
    rw c.write_bytes.ensures
    (head-overwritten c.args.page.now c.args.k c.pointer_at-start.result.offset c.args.head.now c.requires.laid c.told-page c.requires.line c.pointer_at-start.ensures.offset c.requires.normal c.told-head c.requires.tuple)
