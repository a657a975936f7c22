use Rattle.std.proofs.Common.{◌∙◌, ap, arith, length}
use Rattle.heap_page.specs.Page.{items_of}
use Rattle.heap_page.proofs.Header.{laid-page}
use Rattle.heap_page.proofs.Answered.{put-fits, room-after, place-room}
use Rattle.heap_page.proofs.typed_page.HeapPage.put.Goals as goal

pub make_room-requires-clause-room : goal.make_room-requires-clause-room
make_room-requires-clause-room c =
    room-after _ (items_of c.lay_out.new.page) c.args.line c.args.head.now c.args.rest.now c.told-head (c.lay_out.ensures.items ∙ ap items_of c.self.view_is)
    (put-fits _ c.args.line _ _ c.in-Ok.ensures).room

pub overflow_sub-line : goal.overflow_sub-line
overflow_sub-line c = (put-fits _ c.args.line _ _ c.in-Ok.ensures).line

pub place-requires-clause-room : goal.place-requires-clause-room
place-requires-clause-room c =
    place-room _ c.args.line (length c.args.rest.now) (length c.args.head.now) _ (put-fits _ c.args.line _ _ c.in-Ok.ensures).line c.told-head c.make_room.ensures.fits

pub place-requires-clause-tuple : goal.place-requires-clause-tuple
place-requires-clause-tuple c = (put-fits _ c.args.line _ _ c.in-Ok.ensures).tuple

pub invariant_of-self : goal.invariant_of-self
invariant_of-self c = laid-page c.place.new.page (omega arith) c.place.ensures.laid
