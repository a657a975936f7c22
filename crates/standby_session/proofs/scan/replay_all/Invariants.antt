use Rattle.std.proofs.Common.{◌≡◌, ℕ, ◌+◌, ◌-◌, ◌^◌}
use Rattle.wal_archive.specs.ArchiveLog.{archived_bytes}
use Rattle.standby_core.specs.View.{standby}
use Rattle.standby_session.proofs.Steps.{AppliedTold}
use Rattle.standby_session.proofs.scan.replay_all.Given as goal

abbrev pub invariant-records : goal.invariant-records
invariant-records g l = record {
  told : (count : ℕ) × AppliedTold (archived_bytes (g.A.Archive.files l.initial.archive) (standby l.initial.node).segsize) count
      (standby l.initial.node) (standby l.node);
  same_log : archived_bytes (g.A.Archive.files l.archive) (standby l.node).segsize
      ≡ archived_bytes (g.A.Archive.files l.initial.archive) (standby l.initial.node).segsize;
  faults : g.A.Archive.fault_count l.archive ≡ g.A.Archive.fault_count l.initial.archive;
}

abbrev pub decreases-records : goal.decreases-records
decreases-records g l = 2 ^ 63 + 2 ^ 31 - (standby l.node).at.0
