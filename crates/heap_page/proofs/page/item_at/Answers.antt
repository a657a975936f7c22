use Rattle.std.proofs.Common.{arith}
use Rattle.heap_page.proofs.Changes.{bounds}
use Rattle.heap_page.proofs.Header.{laid-line, placed-at, placed-tuple, item-normal, item-redirect, item-dead, item-unused}
use Rattle.heap_page.proofs.page.item_at.Goals as goal

pub pointer_at-pointer-requires : goal.pointer_at-pointer-requires
pointer_at-pointer-requires c =
    let b = bounds c.args.page.now (laid-line c.args.page.now c.args.k c.requires.page c.requires.line) in omega arith

pub part-bytes-requires : goal.part-bytes-requires
part-bytes-requires c =
    let h = c.pointer_at-pointer.ensures in
    let p = placed-at c.args.page.now c.args.k _ c.requires.page c.requires.line h.state c.if-pointer-eq-NORMAL.true in
    omega (arith, p.inside)

pub returns-then-pointer-eq-NORMAL-clause-item : goal.returns-then-pointer-eq-NORMAL-clause-item
returns-then-pointer-eq-NORMAL-clause-item c =
    let h = c.pointer_at-pointer.ensures in
    item-normal c.args.page.now c.args.k _ _ _ _ c.requires.line h.offset h.state h.length c.if-pointer-eq-NORMAL.true c.part-bytes.ensures

pub returns-then-pointer-eq-NORMAL-clause-rule : goal.returns-then-pointer-eq-NORMAL-clause-rule
returns-then-pointer-eq-NORMAL-clause-rule c =
    let h = c.pointer_at-pointer.ensures in
    let p = placed-at c.args.page.now c.args.k _ c.requires.page c.requires.line h.state c.if-pointer-eq-NORMAL.true in
    placed-tuple c.args.page.now _ _ _ _ p h.offset h.length c.part-bytes.ensures

pub returns-then-pointer-eq-REDIRECT-clause-item :
    goal.returns-then-pointer-eq-REDIRECT-clause-item
returns-then-pointer-eq-REDIRECT-clause-item c =
    let h = c.pointer_at-pointer.ensures in
    item-redirect c.args.page.now c.args.k _ _ c.requires.line h.offset h.state c.if-pointer-eq-REDIRECT.true

pub returns-then-pointer-eq-DEAD-clause-item : goal.returns-then-pointer-eq-DEAD-clause-item
returns-then-pointer-eq-DEAD-clause-item c =
    item-dead c.args.page.now c.args.k _ c.requires.line c.pointer_at-pointer.ensures.state c.if-pointer-eq-DEAD.true

pub returns-clause-item : goal.returns-clause-item
returns-clause-item c =
    item-unused c.args.page.now c.args.k _ c.requires.line c.pointer_at-pointer.ensures.state c.if-pointer-eq-NORMAL.false c.if-pointer-eq-REDIRECT.false c.if-pointer-eq-DEAD.false
