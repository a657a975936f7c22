use Rattle.std.proofs.Common.{◌≡◌, ◌≤◌, ◌++◌, drop, vec_len}
use Rattle.std.specs.Vec.{vec_capacity}
use Rattle.known_assigned.proofs.Sets.{placed}
use Rattle.known_assigned.proofs.running_set.fill.Given as goal

abbrev pub invariant-loop-xid : goal.invariant-loop-xid
invariant-loop-xid l = record {
  items : l.slots.items ++ placed (drop l.xid-index l.xids) ≡ placed l.xids;
  count : vec_len l.slots ≡ l.xid-index;
  room : vec_capacity l.initial.slots ≤ vec_capacity l.slots;
}
