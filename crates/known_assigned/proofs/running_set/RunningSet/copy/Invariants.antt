use Rattle.std.proofs.Common.{◌≡◌, ◌++◌, drop}
use Rattle.known_assigned.specs.Ids.{numbers}
use Rattle.known_assigned.specs.Slots.{live_ids}
use Rattle.known_assigned.proofs.running_set.RunningSet.copy.Given as goal

abbrev pub invariant-loop-slot : goal.invariant-loop-slot
invariant-loop-slot l = numbers l.xids ++ live_ids (drop l.slot-index l.slot-items) ≡ live_ids l.slot-items
