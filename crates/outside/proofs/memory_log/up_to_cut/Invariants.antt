use Rattle.std.proofs.Common.{◌≡◌, ◌<◌, ◌≤◌, ◌+◌, ℕ, get_or, drop}
use Rattle.outside.specs.Memory.{up_to_cut}
use Rattle.outside.proofs.memory_log.up_to_cut.Given as goal

abbrev pub invariant-loop-cut : goal.invariant-loop-cut
invariant-loop-cut l = record {
  room : l.reach ≤ l.most;
  some : 0 < l.most → 0 < l.reach;
  kept : (k : ℕ) → k < l.cut-index → l.at < get_or l.cuts k 0 → l.at + l.reach ≤ get_or l.cuts k 0;
  longest : up_to_cut (drop l.cut-index l.cuts) l.at l.reach ≡ up_to_cut l.cuts l.at l.most;
}
