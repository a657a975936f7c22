use Rattle.std.proofs.Common.{◌≡◌, ◌≤◌, ◌+◌, length}
use Rattle.known_assigned.specs.Ids.{ids_above, without}
use Rattle.known_assigned.proofs.running_set.RunningSet.count_absent.Given as goal

abbrev pub invariant-loop-below : goal.invariant-loop-below
invariant-loop-below l = record {
  counted : l.count + length (without l.self.xids (ids_above l.below l.high)) ≡ length (without l.self.xids (ids_above l.low l.high));
  small : l.count + l.low ≤ l.below;
}
