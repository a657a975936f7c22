use Rattle.std.proofs.Common.{◌≡◌, ℕ, ◌≤◌, Option}
use Rattle.standby_core.specs.View.{standby}
use Rattle.standby_session.specs.Scanning.{WrotePages, left_of}
use Rattle.standby_session.proofs.scan.write_pages.Given as goal

abbrev pub invariant-pages : goal.invariant-pages
invariant-pages g l = record {
  wrote : (byte : ℕ → Option ℕ) → WrotePages byte l.id (standby l.initial.node) (standby l.node) (g.O.Sink.written l.initial.out) (g.O.Sink.written l.out);
  sink_faults : g.O.Sink.fault_count l.out ≡ g.O.Sink.fault_count l.initial.out;
  shortages : g.O.Sink.short_count l.initial.out ≤ g.O.Sink.short_count l.out;
}

abbrev pub decreases-pages : goal.decreases-pages
decreases-pages g l = left_of l.id (standby l.node)
