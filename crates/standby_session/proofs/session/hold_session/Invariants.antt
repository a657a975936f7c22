use Rattle.std.proofs.Common.{◌≡◌, ◌≤◌, ◌-◌, ◌^◌}
use Rattle.wal_archive.specs.ArchiveLog.{archived_bytes}
use Rattle.standby_core.specs.View.{standby}
use Rattle.standby_session.specs.Held.{IsHeld}
use Rattle.standby_session.proofs.session.hold_session.Given as goal

abbrev pub invariant-reads : goal.invariant-reads
invariant-reads g l = record {
  held : IsHeld (archived_bytes (g.A.Archive.files l.initial.archive) (standby l.initial.node).segsize) (standby l.initial.node) (standby l.node)
      (g.S.Source.rest l.initial.source) (g.S.Source.rest l.source) (g.O.Sink.written l.initial.out) (g.O.Sink.written l.out)
      l.session.lines l.session.troubled;
  same_log : archived_bytes (g.A.Archive.files l.archive) (standby l.node).segsize
      ≡ archived_bytes (g.A.Archive.files l.initial.archive) (standby l.initial.node).segsize;
  archive_faults : g.A.Archive.fault_count l.archive ≡ g.A.Archive.fault_count l.initial.archive;
  source_faults : g.S.Source.fault_count l.source ≡ g.S.Source.fault_count l.initial.source;
  sink_faults : g.O.Sink.fault_count l.out ≡ g.O.Sink.fault_count l.initial.out;
  shortages : g.O.Sink.short_count l.initial.out ≤ g.O.Sink.short_count l.out;
}

abbrev pub decreases-reads : goal.decreases-reads
decreases-reads g l = 2 ^ 62 - g.S.Source.taken_count l.source
