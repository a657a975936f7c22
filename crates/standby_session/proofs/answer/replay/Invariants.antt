use Rattle.std.proofs.Common.{◌≡◌}
use Rattle.wal_archive.specs.ArchiveLog.{archived_bytes}
use Rattle.standby_core.specs.View.{standby}
use Rattle.standby_session.proofs.Steps.{AppliedTold}
use Rattle.standby_session.proofs.answer.replay.Given as goal

abbrev pub invariant-records : goal.invariant-records
invariant-records g l = record {
  told : AppliedTold (archived_bytes (g.A.Archive.files l.initial.archive) (standby l.initial.node).segsize) l.applied (standby l.initial.node) (standby l.node);
  segsize : (standby l.node).segsize ≡ (standby l.initial.node).segsize;
  same_files : archived_bytes (g.A.Archive.files l.archive) (standby l.initial.node).segsize
      ≡ archived_bytes (g.A.Archive.files l.initial.archive) (standby l.initial.node).segsize;
  faults : g.A.Archive.fault_count l.archive ≡ g.A.Archive.fault_count l.initial.archive;
}
