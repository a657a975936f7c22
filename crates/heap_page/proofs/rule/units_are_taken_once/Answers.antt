use Rattle.std.proofs.Common.{◌≡◌, ◌+◌, ◌/◌, ◌<◌, sym, subst, ◌∙◌, arith}
use Rattle.std.proofs.lemmas.Bool.{both_ways}
use Rattle.heap_page.specs.Page.{pointer_of, line_count, state_in}
use Rattle.heap_page.proofs.Laid.{lines-few, lines-placed}
use Rattle.heap_page.proofs.Taken.{TakenBelow, room-placed, room-order, room-units, taken-none, taken-other, taken-line, pairs-refused, pairs-accepted, first-read, end-read}
use Rattle.heap_page.proofs.rule.units_are_taken_once.Goals as goal
use Rattle.heap_page.proofs.rule.units_are_taken_once.Goals.{then-pointer-eq-NORMAL+else-not-take_units, else-pointer-eq-NORMAL}

pub loop-k-init : goal.loop-k-init
loop-k-init c = taken-none c.args.page.now c.args.taken.now c.requires.units c.requires.free

pub pointer_at-pointer-requires : goal.pointer_at-pointer-requires
pointer_at-pointer-requires c = omega (arith, lines-few c.args.page.now c.requires.lines.header)

pub take_units-requires-clause-order : goal.take_units-requires-clause-order
take_units-requires-clause-order c =
    room-order c.pointer_at-pointer.result.offset c.pointer_at-pointer.result.length c.end_of_room.result c.end_of_room.ensures

pub take_units-requires-clause-units : goal.take_units-requires-clause-units
take_units-requires-clause-units c =
    let below : c.loop-k.k < line_count c.args.page.now = omega arith in
    let normal : state_in (pointer_of c.args.page.now c.loop-k.k) ≡ 1 = sym c.pointer_at-pointer.ensures.state ∙ c.if-pointer-eq-NORMAL.true in
    let room = room-placed c.args.page.now (pointer_of c.args.page.now c.loop-k.k) (lines-placed c.args.page.now (line_count c.args.page.now) c.requires.lines.placed c.loop-k.k below normal) c.keeps_size.ensures in
    room-units c.args.page.now c.loop-k.k (c.end_of_room.result / 8) c.loop-k.taken room
    (end-read c.args.page.now c.loop-k.k c.pointer_at-pointer.result.offset c.pointer_at-pointer.result.length c.end_of_room.result c.pointer_at-pointer.ensures.offset c.pointer_at-pointer.ensures.length c.end_of_room.ensures)
    (c.loop-k.auto.taken ∙ c.requires.units)

pub returns-then-not-take_units : goal.returns-then-not-take_units
returns-then-not-take_units c =
    let below : c.loop-k.k < line_count c.args.page.now = omega arith in
    let normal : state_in (pointer_of c.args.page.now c.loop-k.k) ≡ 1 = sym c.pointer_at-pointer.ensures.state ∙ c.if-pointer-eq-NORMAL.true in
    pairs-refused c.args.page.now (line_count c.args.page.now) c.loop-k.k (c.pointer_at-pointer.result.offset / 8) (c.end_of_room.result / 8) c.loop-k.taken c.loop-k.invariant below normal
    (first-read c.args.page.now c.loop-k.k c.pointer_at-pointer.result.offset c.pointer_at-pointer.ensures.offset)
    (end-read c.args.page.now c.loop-k.k c.pointer_at-pointer.result.offset c.pointer_at-pointer.result.length c.end_of_room.result c.pointer_at-pointer.ensures.offset c.pointer_at-pointer.ensures.length c.end_of_room.ensures)
    (λ free. both_ways c.take_units.result c.if-not-take_units.true (c.take_units.ensures.free.1 free))

pub loop-k-preserved : goal.loop-k-preserved
loop-k-preserved c =
    elim c.if-pointer-eq-NORMAL.branch [
      | then-pointer-eq-NORMAL+else-not-take_units w ↦
          let below : c.loop-k.k < line_count c.args.page.now = omega arith in
          let normal : state_in (pointer_of c.args.page.now c.loop-k.k) ≡ 1 = sym c.pointer_at-pointer.ensures.state ∙ w.if-pointer-eq-NORMAL.true in
          let room = room-placed c.args.page.now (pointer_of c.args.page.now c.loop-k.k) (lines-placed c.args.page.now (line_count c.args.page.now) c.requires.lines.placed c.loop-k.k below normal) c.keeps_size.ensures in
          subst (TakenBelow c.args.page.now (c.loop-k.k + 1)) (sym w.taken-is)
          (taken-line c.args.page.now c.loop-k.k (c.pointer_at-pointer.result.offset / 8) (w.end_of_room.result / 8) c.loop-k.taken w.take_units.new.taken c.loop-k.invariant normal room
          (first-read c.args.page.now c.loop-k.k c.pointer_at-pointer.result.offset c.pointer_at-pointer.ensures.offset)
          (end-read c.args.page.now c.loop-k.k c.pointer_at-pointer.result.offset c.pointer_at-pointer.result.length w.end_of_room.result c.pointer_at-pointer.ensures.offset c.pointer_at-pointer.ensures.length w.end_of_room.ensures)
          (w.take_units.ensures.free.0 w.if-not-take_units.false)
          (w.take_units.ensures.inside w.if-not-take_units.false)
          w.take_units.ensures.before
          w.take_units.ensures.past)
      | else-pointer-eq-NORMAL w ↦
          subst (TakenBelow c.args.page.now (c.loop-k.k + 1)) (sym w.taken-is)
          (taken-other c.args.page.now c.loop-k.k c.loop-k.taken c.loop-k.invariant (λ e. w.if-pointer-eq-NORMAL.false (c.pointer_at-pointer.ensures.state ∙ e)))
    ]

pub returns : goal.returns
returns c =
    pairs-accepted c.args.page.now (line_count c.args.page.now) c.loop-k.k c.loop-k.taken c.loop-k.invariant (omega arith)
