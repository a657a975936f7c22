use Rattle.std.proofs.Common.{◌≡◌, ◌+◌, ◌≤◌, drop, length}
use Rattle.known_assigned.specs.Ids.{numbers}
use Rattle.transaction_model.specs.StandbyStates.{set_parents}
use Rattle.xact_redo.proofs.records.set_parents.Given as goal

abbrev pub invariant-loop-xid : goal.invariant-loop-xid
invariant-loop-xid l = record {
  pairs :
      set_parents l.top.0 (numbers (drop l.xid-index l.xids)) l.subs.pairs
      ≡ set_parents l.top.0 (numbers l.xids) l.initial.subs.pairs;
  room : length l.xids ≤ l.xid-index + l.subs.spare;
}
