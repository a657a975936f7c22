use Rattle.std.proofs.Common.{◌≡◌, ◌⊎◌, ℕ, subst, sym, ap, ◌∙◌, Ok, Err}
use Rattle.outside.specs.Faults.{Rose}
use Rattle.wal_archive.specs.ArchiveLog.{archived_bytes}
use Rattle.standby_core.specs.View.{standby}
use Rattle.standby_model.specs.Archived.{segment_size}
use Rattle.standby_session.specs.declared.fault.SessionFault.{SessionFault}
use Rattle.standby_session.specs.declared.fault.SessionFault.TheVariants.{Sink, Source}
use Rattle.standby_session.specs.Held.{LeavesTold}
use Rattle.standby_cli.specs.Watched.{watched}
use Rattle.standby_cli.proofs.Appending.{one_err, worse_by}
use Rattle.standby_cli.proofs.Beginning.{has_size}
use Rattle.standby_cli.proofs.Running.{session_cut, session_held, session_unbegun}
use Rattle.standby_cli.proofs.run.hold.Goals as goal

pub returns-in-Err-clause-leaves : goal.returns-in-Err-clause-leaves
returns-in-Err-clause-leaves g c =
    let faults = g.O.Sink.fault_count in
    let shorts = g.O.Sink.short_count in
    let o = watched (faults c.args.out.now) (faults c.write_fault.new.out) (shorts c.args.out.now) (shorts c.write_fault.new.out)
    (Rose (g.S.Source.fault_count c.args.source.now) (g.S.Source.fault_count c.args.source.now))
    (g.O.Sink.written c.args.out.now) (g.O.Sink.written c.write_fault.new.out) in
    session_unbegun c.args.tables o (archived_bytes (g.A.Archive.files c.args.archive.now) segment_size) (g.S.Source.rest c.args.source.now)
    c.write_fault.result c.write_fault.ensures.status c.write_fault.ensures.written

pub returns-in-Ok-hold_session-clause-leaves : goal.returns-in-Ok-hold_session-clause-leaves
returns-in-Ok-hold_session-clause-leaves g c =
    let faults = g.O.Sink.fault_count in
    let shorts = g.O.Sink.short_count in
    let files = g.A.Archive.files c.args.archive.now in
    let rest = g.S.Source.rest c.args.source.now in
    let before = g.O.Sink.written c.args.out.now in
    let now = g.O.Sink.written c.hold_session.new.out in
    let node = standby c.in-Ok.node in
    let status = c.in-Ok-hold_session.status in
    let o = watched (faults c.args.out.now) (faults c.hold_session.new.out) (shorts c.args.out.now) (shorts c.hold_session.new.out)
    (Rose (g.S.Source.fault_count c.args.source.now) (g.S.Source.fault_count c.hold_session.new.source)) before now in
    session_held c.args.tables o (archived_bytes files segment_size) rest node status c.in-Ok.ensures c.in-Ok-hold_session.ensures.status
    (subst (λ (size : ℕ). LeavesTold (archived_bytes files size) rest node before now (Ok status)) (has_size c.args.tables node c.in-Ok.ensures)
    c.in-Ok-hold_session.ensures.held)

pub returns-clause-leaves : goal.returns-clause-leaves
returns-clause-leaves g c =
    let faults = g.O.Sink.fault_count in
    let shorts = g.O.Sink.short_count in
    let files = g.A.Archive.files c.args.archive.now in
    let rest = g.S.Source.rest c.args.source.now in
    let before = g.O.Sink.written c.args.out.now in
    let mid = g.O.Sink.written c.hold_session.new.out in
    let now = g.O.Sink.written c.end_by.new.out in
    let node = standby c.in-Ok.node in
    let why = c.in-Err-hold_session.fault in
    let f = faults c.args.out.now in
    let m = faults c.hold_session.new.out in
    let h = faults c.end_by.new.out in
    let trouble = Rose m h ⊎ Rose (shorts c.hold_session.new.out) (shorts c.end_by.new.out) in
    let o = watched f h (shorts c.args.out.now) (shorts c.end_by.new.out)
    (Rose (g.S.Source.fault_count c.args.source.now) (g.S.Source.fault_count c.hold_session.new.source)) before now in
    let sink_rose : why ≡ Sink → Rose f h =
    λ e. subst (λ (n : ℕ). Rose f n) (sym (c.end_by.ensures.sink e)) (c.in-Err-hold_session.ensures.sink_failed (ap (λ (w : SessionFault). Err w) e)) in
    session_cut c.args.tables o (archived_bytes files segment_size) rest node c.end_by.result why mid trouble c.in-Ok.ensures
    c.end_by.ensures.status
    (worse_by why f m h (shorts c.args.out.now) (shorts c.hold_session.new.out) (shorts c.end_by.new.out)
    (λ other. c.in-Err-hold_session.ensures.sink_uncounted (λ e. other (one_err why Sink e)))
    sink_rose c.in-Err-hold_session.ensures.shortages)
    sink_rose
    (λ e. c.in-Err-hold_session.ensures.source_failed (ap (λ (w : SessionFault). Err w) e))
    (subst (λ (size : ℕ). LeavesTold (archived_bytes files size) rest node before mid (Err why)) (has_size c.args.tables node c.in-Ok.ensures)
    c.in-Err-hold_session.ensures.held)
    c.end_by.ensures.written
