use Rattle.std.proofs.Common.{◌≡◌, ◌≤◌, take}
use Rattle.wal_archive.specs.ArchiveLog.{archived_bytes}
use Rattle.session_text.specs.Requests.{requests_of}
use Rattle.session_text.specs.Taking.{lines_given, taken_behind}
use Rattle.standby_core.specs.View.{standby}
use Rattle.standby_session.specs.Answered.{AnsweredTold}
use Rattle.standby_session.proofs.session.Session.take.Given as goal

abbrev pub invariant-bytes : goal.invariant-bytes
invariant-bytes g l = record {
  told : AnsweredTold (archived_bytes (g.A.Archive.files l.initial.archive) (standby l.initial.node).segsize)
      (requests_of (lines_given l.initial.self.lines (take l.byte-index l.bytes))) (standby l.initial.node) (standby l.node)
      (g.O.Sink.written l.initial.out) (g.O.Sink.written l.out) l.initial.self.troubled l.self.troubled;
  lines : l.self.lines ≡ taken_behind l.initial.self.lines (take l.byte-index l.bytes);
  same_log : archived_bytes (g.A.Archive.files l.archive) (standby l.node).segsize
      ≡ archived_bytes (g.A.Archive.files l.initial.archive) (standby l.initial.node).segsize;
  archive_faults : g.A.Archive.fault_count l.archive ≡ g.A.Archive.fault_count l.initial.archive;
  sink_faults : g.O.Sink.fault_count l.out ≡ g.O.Sink.fault_count l.initial.out;
  shortages : g.O.Sink.short_count l.initial.out ≤ g.O.Sink.short_count l.out;
}
