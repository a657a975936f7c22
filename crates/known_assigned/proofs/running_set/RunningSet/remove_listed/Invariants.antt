use Rattle.std.proofs.Common.{◌≡◌, drop}
use Rattle.known_assigned.specs.Ids.{numbers, without}
use Rattle.known_assigned.proofs.running_set.RunningSet.remove_listed.Given as goal

abbrev pub invariant-loop-xid : goal.invariant-loop-xid
invariant-loop-xid l = record {
  xids : without (numbers (drop l.xid-index l.xids)) l.self.xids ≡ without (numbers l.xids) l.initial.self.xids;
  spare : l.self.spare ≡ l.initial.self.spare;
}
