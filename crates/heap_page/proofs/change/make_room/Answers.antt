use Rattle.std.proofs.Common.{arith}
use Rattle.heap_page.proofs.Changes.{bounds}
use Rattle.heap_page.proofs.Rooms.{packed-fits}
use Rattle.heap_page.proofs.change.make_room.Goals as goal

pub has_gap-requires-clause-few : goal.has_gap-requires-clause-few
has_gap-requires-clause-few c = let b = bounds c.args.page.now c.requires.laid in omega arith

pub returns-then-not-has_gap-clause-fits : goal.returns-then-not-has_gap-clause-fits
returns-then-not-has_gap-clause-fits c =
    packed-fits c.args.page.now c.compact.new.page c.args.line c.args.len c.requires.room c.compact.ensures
