use Rattle.std.proofs.Common.{◌+◌, [], ◌∙◌, refl, ap, sym, get_or, arith}
use Rattle.wal_archive.specs.ArchiveLog.{archived_bytes}
use Rattle.session_text.specs.Taking.{Taking, step}
use Rattle.standby_core.specs.View.{standby}
use Rattle.standby_session.proofs.Given.{taken_more}
use Rattle.standby_session.proofs.Lines.{broken_in_front, lines_broken, lines_told, no_lines}
use Rattle.standby_session.proofs.session.Session.take.Goals as goal

pub bytes-init : goal.bytes-init
bytes-init g c = record {
  told = no_lines (archived_bytes (g.A.Archive.files c.args.archive.now) (standby c.args.node.now).segsize) [] (standby c.args.node.now)
      (g.O.Sink.written c.args.out.now) c.args.self.now.troubled refl;
  lines = refl;
  same_log = refl;
  archive_faults = refl;
  sink_faults = refl;
  shortages = omega arith;
}

pub returns-in-Err-clause-told : goal.returns-in-Err-clause-told
returns-in-Err-clause-told g c =
    let inv = c.bytes.invariant in
    let bytes = archived_bytes (g.A.Archive.files c.args.archive.now) (standby c.args.node.now).segsize in
    broken_in_front bytes c.args.self.now.lines c.args.bytes.now (c.bytes.byte-index + 1) (standby c.args.node.now) (g.O.Sink.written c.args.out.now)
    (g.O.Sink.written c.take_byte.new.out) c.in-Err.fault
    (lines_broken bytes _ c.args.self.now.lines c.bytes.self.lines c.args.bytes.now c.bytes.byte-index (standby c.args.node.now) (standby c.bytes.node)
    (g.O.Sink.written c.args.out.now) (g.O.Sink.written c.bytes.out) (g.O.Sink.written c.take_byte.new.out)
    c.args.self.now.troubled c.bytes.self.troubled c.in-Err.fault inv.same_log c.bytes-test.true inv.lines inv.told c.in-Err.ensures.told)

pub bytes-preserved : goal.bytes-preserved
bytes-preserved g c =
    let inv = c.bytes.invariant in
    let is = c.in-Ok.ensures in
    let bytes = archived_bytes (g.A.Archive.files c.args.archive.now) (standby c.args.node.now).segsize in
    record {
      told = lines_told bytes _ c.args.self.now.lines c.bytes.self.lines c.args.bytes.now c.bytes.byte-index (standby c.args.node.now) (standby c.bytes.node)
          (standby c.take_byte.new.node) (g.O.Sink.written c.args.out.now) (g.O.Sink.written c.bytes.out) (g.O.Sink.written c.take_byte.new.out)
          c.args.self.now.troubled c.bytes.self.troubled c.take_byte.new.self.troubled inv.same_log c.bytes-test.true inv.lines inv.told is.told;
      lines = is.lines
          ∙ ap (λ (t : Taking). (step t (get_or c.args.bytes.now c.bytes.byte-index 0)).0) inv.lines
          ∙ sym (taken_more c.args.self.now.lines c.args.bytes.now c.bytes.byte-index c.bytes-test.true);
      same_log = is.same_log ∙ inv.same_log;
      archive_faults = is.archive_uncounted (λ e. cc) ∙ inv.archive_faults;
      sink_faults = is.sink_uncounted (λ e. cc) ∙ inv.sink_faults;
      shortages = omega (arith, is.shortages);
    }
