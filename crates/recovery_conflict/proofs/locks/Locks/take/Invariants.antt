use Rattle.std.proofs.Common.{◌≡◌, ◌≤◌, ◌-◌, ◌++◌, length, map, vec_len}
use Rattle.std.specs.Vec.{vec_capacity}
use Rattle.recovery_conflict.specs.Held.{held_since}
use Rattle.recovery_conflict.proofs.locks.Locks.take.Given as goal

abbrev pub invariant-loop-entry : goal.invariant-loop-entry
invariant-loop-entry l = record {
  locks :
      l.self-inside.held.items ++ map (held_since l.start) l.entry-iterator ≡ l.fn.self.locks ++ map (held_since l.start) l.fn.entries;
  room : length l.entry-iterator ≤ vec_capacity l.self-inside.held - vec_len l.self-inside.held;
}
