use Rattle.std.proofs.Common.{◌≡◌, ◌≤◌, ◌+◌, length}
use Rattle.known_assigned.specs.Ids.{ids_above, with_ids, without}
use Rattle.known_assigned.proofs.running_set.RunningSet.add_range.Given as goal

abbrev pub invariant-loop-below : goal.invariant-loop-below
invariant-loop-below l = record {
  xids : with_ids (ids_above l.below l.high) l.self.xids ≡ with_ids (ids_above l.low l.high) l.initial.self.xids;
  room : l.initial.self.spare + length (without l.self.xids (ids_above l.below l.high)) ≤ l.self.spare + length (without l.initial.self.xids (ids_above l.low l.high));
}
