use Rattle.std.proofs.Common.{◌≡◌, ◌+◌, ◌-◌, ◌%◌, ◌^◌, ◌<◌, ◌≤◌, length, IfSome}
use Rattle.wal_reader.specs.Calls.{LogStays}
use Rattle.wal_reader.specs.Kept.{AreTold}
use Rattle.wal_reader.proofs.window.Window.cover.Given as goal

abbrev pub invariant-loop-self : goal.invariant-loop-self
invariant-loop-self g l =
    (l.at < 2 ^ 63) × (l.self.from ≤ l.at) × (l.at ≤ l.self.from + length l.self.bytes) × (l.at - l.at % 65536 ≤ l.self.from)
    × LogStays (g.L.LogBytes.told l.fn.log) (g.L.LogBytes.told l.log) (g.L.LogBytes.owner_of l.fn.log) (g.L.LogBytes.owner_of l.log) (g.L.LogBytes.fault_count l.fn.log) (g.L.LogBytes.fault_count l.log)
    × IfSome (g.L.LogBytes.told l.fn.log) (λ byte. AreTold byte l.fn.self → AreTold byte l.self)
    × g.L.LogBytes.same l.fn.log l.log
    × (g.L.LogBytes.fault_count l.log ≡ g.L.LogBytes.fault_count l.fn.log)

abbrev pub decreases-loop-self : goal.decreases-loop-self
decreases-loop-self g l = l.at + l.n - (l.self.from + length l.self.bytes)
