use Rattle.std.proofs.Common.{arith}
use Rattle.known_assigned.proofs.Slotted.{no_place_from}
use Rattle.known_assigned.proofs.running_set.find.Goals as goal
use Rattle.known_assigned.proofs.running_set.find.Goals.{else-at-slots-via-then-at-slots+else-slots-at, else-at-slots-via-else-at-slots}

pub returns-else-at-slots-clause-err : goal.returns-else-at-slots-clause-err
returns-else-at-slots-clause-err c =
    no_place_from c.args.slots.now c.place-at.result c.args.xid c.requires c.place-at.ensures.bound c.place-at.ensures.below c.place-at.ensures.rest
    (λ inside e. elim c.else-at-slots.branch [
      | else-at-slots-via-then-at-slots+else-slots-at w ↦ w.if-slots-at.false e
      | else-at-slots-via-else-at-slots w ↦ let h = w.if-at-slots.false in absurd (omega arith)
    ])
