use Rattle.std.proofs.Common.{◌≡◌, ◌-◌, ◌^◌, ◌<◌, ◌≤◌, ◌+◌, length, IfSome, Ok}
use Rattle.wal_reader.specs.Gathered.{gathered}
use Rattle.wal_reader.specs.Calls.{LogStays, WhereTold, SaysText, less}
use Rattle.wal_reader.proofs.source.Gatherer.gather.Given as goal

abbrev pub invariant-loop-left : goal.invariant-loop-left
invariant-loop-left g l = record {
  fewer : l.left ≤ l.fn.n;
  missing : l.missing ≡ less l.fn.missing (l.fn.n - l.left);
  enough : IfSome l.missing (λ m. l.left ≤ m);
  onward : l.fn.at + (l.fn.n - l.left) ≤ l.at;
  grows : length l.self.text ≡ length l.fn.self.text + (l.fn.n - l.left);
  some : l.left < l.fn.n → l.at ≤ 2 ^ 63;
  bounded : l.fn.at ≤ 2 ^ 63 → l.at ≤ 2 ^ 63;
  same : l.self ≡ record l.fn.self { kept = l.self.kept; text = l.self.text };
  stays : LogStays (g.L.LogBytes.told l.fn.log) (g.L.LogBytes.told l.log) (g.L.LogBytes.owner_of l.fn.log) (g.L.LogBytes.owner_of l.log) (g.L.LogBytes.fault_count l.fn.log) (g.L.LogBytes.fault_count l.log);
  uncounted : g.L.LogBytes.fault_count l.log ≡ g.L.LogBytes.fault_count l.fn.log;
  same_log : g.L.LogBytes.same l.fn.log l.log;
  answer : WhereTold (g.L.LogBytes.told l.fn.log) (g.L.LogBytes.owner_of l.fn.log) l.fn.self l.self
      (λ told. SaysText (Ok l.at) l.fn.self.text l.self.text (gathered told l.fn.missing (l.fn.n - l.left) l.fn.at));
}

abbrev pub decreases-loop-left : goal.decreases-loop-left
decreases-loop-left g l = l.left
