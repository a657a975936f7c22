use Rattle.std.proofs.Common.{◌∙◌, arith}
use Rattle.heap_page.proofs.Header.{lines-bound}
use Rattle.heap_page.proofs.Rooms.{room-normal, room-empty}
use Rattle.heap_page.proofs.room.room_of_line.Goals as goal

pub pointer_at-pointer-requires : goal.pointer_at-pointer-requires
pointer_at-pointer-requires c = omega (arith, lines-bound c.args.page.now c.requires.page)

pub returns-then-pointer-eq-NORMAL-clause-room : goal.returns-then-pointer-eq-NORMAL-clause-room
returns-then-pointer-eq-NORMAL-clause-room c =
    let h = c.pointer_at-pointer.ensures in
    c.aligned.ensures ∙ room-normal c.args.page.now c.args.k _ _ c.requires.page c.requires.line h.state h.length c.if-pointer-eq-NORMAL.true

pub returns-clause-room : goal.returns-clause-room
returns-clause-room c =
    room-empty c.args.page.now c.args.k _ c.requires.line c.pointer_at-pointer.ensures.state c.if-pointer-eq-NORMAL.false
