use Rattle.std.proofs.Common.{◌≡◌, ◌∙◌, refl, arith, if◌then◌else◌}
use Rattle.std.proofs.lemmas.Result.{IfOk-at_ok}
use Rattle.wal_archive.specs.ArchiveLog.{archived_bytes}
use Rattle.standby_core.specs.View.{standby}
use Rattle.standby_session.proofs.Holding.{broken_in_part, held_first, held_on, held_to_end, source_short}
use Rattle.standby_session.proofs.session.hold_session.Goals as goal

pub reads-init : goal.reads-init
reads-init g c = record {
  held = held_first (archived_bytes (g.A.Archive.files c.args.archive.now) (standby c.args.node.now).segsize) (standby c.args.node.now)
      (g.S.Source.rest c.args.source.now) (g.O.Sink.written c.args.out.now) c.new-session.result.lines c.new-session.result.troubled
      c.new-session.ensures.lines c.new-session.ensures.quiet;
  same_log = refl;
  archive_faults = refl;
  source_faults = refl;
  sink_faults = refl;
  shortages = omega arith;
}

pub returns-in-Err-Memory-clause-held : goal.returns-in-Err-Memory-clause-held
returns-in-Err-Memory-clause-held g c =
    source_short c.asks_all_read.ensures (archived_bytes (g.A.Archive.files c.args.archive.now) (standby c.args.node.now).segsize)
    (standby c.args.node.now) (standby c.reads.node) (g.S.Source.rest c.args.source.now) (g.S.Source.rest c.reads.source)
    (g.O.Sink.written c.args.out.now) (g.O.Sink.written c.reads.out) c.reads.session.lines c.reads.session.troubled c.reads.invariant.held

pub returns-in-Ok-eq0-clause-held : goal.returns-in-Ok-eq0-clause-held
returns-in-Ok-eq0-clause-held g c =
    let inv = c.reads.invariant in
    held_to_end c.asks_all_read.ensures (archived_bytes (g.A.Archive.files c.args.archive.now) (standby c.args.node.now).segsize) _
    (standby c.args.node.now) (standby c.reads.node) (standby c.end.new.node) (g.S.Source.rest c.args.source.now) (g.S.Source.rest c.reads.source)
    (g.S.Source.rest c.read.new.self) (g.O.Sink.written c.args.out.now) (g.O.Sink.written c.reads.out) (g.O.Sink.written c.end.new.out)
    c.reads.session.lines c.reads.session.troubled c.end.new.self.troubled c.read.new.buf c.end.result inv.same_log (omega arith) inv.held
    (rw c.in-Ok-eq0.field-0-test at c.in-Ok-eq0.ensures.told) c.end.ensures.told
    (λ status e. IfOk-at_ok (λ s. s ≡ (if c.end.new.self.troubled then 5 else 0)) e c.end.ensures.status)

pub returns-in-Err-clause-held : goal.returns-in-Err-clause-held
returns-in-Err-clause-held g c =
    let inv = c.reads.invariant in
    broken_in_part c.asks_all_read.ensures (archived_bytes (g.A.Archive.files c.args.archive.now) (standby c.args.node.now).segsize) _
    (standby c.args.node.now) (standby c.reads.node) (g.S.Source.rest c.args.source.now) (g.S.Source.rest c.reads.source)
    (g.S.Source.rest c.read.new.self) (g.O.Sink.written c.args.out.now) (g.O.Sink.written c.reads.out) (g.O.Sink.written c.take.new.out)
    c.reads.session.lines c.reads.session.troubled c.reads.session.troubled c.read.new.buf c.in-Ok.count (standby c.reads.node) c.in-Err.fault
    inv.same_log inv.held c.in-Ok.ensures.told c.in-Err.ensures.told

pub reads-preserved : goal.reads-preserved
reads-preserved g c =
    let inv = c.reads.invariant in
    let is = c.in-Ok-take.ensures in
    record {
      held = held_on (archived_bytes (g.A.Archive.files c.args.archive.now) (standby c.args.node.now).segsize) _
          (standby c.args.node.now) (standby c.reads.node) (standby c.take.new.node) (g.S.Source.rest c.args.source.now) (g.S.Source.rest c.reads.source)
          (g.S.Source.rest c.read.new.self) (g.O.Sink.written c.args.out.now) (g.O.Sink.written c.reads.out) (g.O.Sink.written c.take.new.out)
          c.reads.session.lines c.take.new.self.lines c.reads.session.troubled c.take.new.self.troubled c.read.new.buf c.in-Ok.count
          inv.same_log inv.held c.in-Ok.ensures.told is.lines is.told;
      same_log = is.same_log ∙ inv.same_log;
      archive_faults = is.archive_uncounted (λ e. cc) ∙ inv.archive_faults;
      source_faults = c.in-Ok.ensures.uncounted (λ e. cc) ∙ inv.source_faults;
      sink_faults = is.sink_uncounted (λ e. cc) ∙ inv.sink_faults;
      shortages = omega (arith, is.shortages);
    }
