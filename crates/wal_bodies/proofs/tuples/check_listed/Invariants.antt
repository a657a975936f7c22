use Rattle.std.proofs.Common.{◌≡◌, ◌≤◌, ◌-◌, length}
use Rattle.wal_bodies.proofs.Walks.{checked}
use Rattle.wal_bodies.proofs.tuples.check_listed.Given as goal

abbrev pub invariant-loop : goal.invariant-loop
invariant-loop l = record {
  within : l.at ≤ length l.bytes;
  leads : checked l.bytes l.at (l.count - l.counter) ≡ checked l.bytes 0 l.count;
}
