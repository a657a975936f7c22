use Rattle.std.proofs.Common.{◌≡◌, ◌⊎◌, ℕ, subst, sym, ap, ◌∙◌, Ok, Err}
use Rattle.outside.specs.Faults.{Rose}
use Rattle.wal_archive.specs.ArchiveLog.{archived_bytes}
use Rattle.standby_core.specs.View.{standby}
use Rattle.standby_model.specs.Archived.{segment_size}
use Rattle.standby_session.specs.declared.fault.SessionFault.{SessionFault}
use Rattle.standby_session.specs.declared.fault.SessionFault.TheVariants.{Sink}
use Rattle.standby_session.specs.Scanned.{ScanLeftTold}
use Rattle.standby_cli.specs.Watched.{watched}
use Rattle.standby_cli.proofs.Appending.{one_err, worse_by}
use Rattle.standby_cli.proofs.Beginning.{has_size}
use Rattle.standby_cli.proofs.Running.{scan_cut, scan_given, scan_unbegun}
use Rattle.standby_cli.proofs.run.scan.Goals as goal

pub returns-in-Err-clause-leaves : goal.returns-in-Err-clause-leaves
returns-in-Err-clause-leaves g c =
    let faults = g.O.Sink.fault_count in
    let shorts = g.O.Sink.short_count in
    let o = watched (faults c.args.out.now) (faults c.write_fault.new.out) (shorts c.args.out.now) (shorts c.write_fault.new.out)
    ⊥ (g.O.Sink.written c.args.out.now) (g.O.Sink.written c.write_fault.new.out) in
    scan_unbegun c.args.tables o (archived_bytes (g.A.Archive.files c.args.archive.now) segment_size) c.args.name.now
    c.write_fault.result c.write_fault.ensures.status c.write_fault.ensures.written

pub returns-in-Ok-run_scan-clause-leaves : goal.returns-in-Ok-run_scan-clause-leaves
returns-in-Ok-run_scan-clause-leaves g c =
    let faults = g.O.Sink.fault_count in
    let shorts = g.O.Sink.short_count in
    let files = g.A.Archive.files c.args.archive.now in
    let name = c.args.name.now in
    let before = g.O.Sink.written c.args.out.now in
    let now = g.O.Sink.written c.run_scan.new.out in
    let node = standby c.in-Ok.node in
    let status = c.in-Ok-run_scan.status in
    let o = watched (faults c.args.out.now) (faults c.run_scan.new.out) (shorts c.args.out.now) (shorts c.run_scan.new.out) ⊥ before now in
    scan_given c.args.tables o (archived_bytes files segment_size) name node status c.in-Ok.ensures c.in-Ok-run_scan.ensures.status
    (subst (λ (size : ℕ). ScanLeftTold (archived_bytes files size) name node before now (Ok status)) (has_size c.args.tables node c.in-Ok.ensures)
    c.in-Ok-run_scan.ensures.scanned)

pub returns-clause-leaves : goal.returns-clause-leaves
returns-clause-leaves g c =
    let faults = g.O.Sink.fault_count in
    let shorts = g.O.Sink.short_count in
    let files = g.A.Archive.files c.args.archive.now in
    let name = c.args.name.now in
    let before = g.O.Sink.written c.args.out.now in
    let mid = g.O.Sink.written c.run_scan.new.out in
    let now = g.O.Sink.written c.end_by.new.out in
    let node = standby c.in-Ok.node in
    let why = c.in-Err-run_scan.fault in
    let f = faults c.args.out.now in
    let m = faults c.run_scan.new.out in
    let h = faults c.end_by.new.out in
    let trouble = Rose m h ⊎ Rose (shorts c.run_scan.new.out) (shorts c.end_by.new.out) in
    let o = watched f h (shorts c.args.out.now) (shorts c.end_by.new.out) ⊥ before now in
    let sink_rose : why ≡ Sink → Rose f h =
    λ e. subst (λ (n : ℕ). Rose f n) (sym (c.end_by.ensures.sink e)) (c.in-Err-run_scan.ensures.sink_failed (ap (λ (w : SessionFault). Err w) e)) in
    scan_cut c.args.tables o (archived_bytes files segment_size) name node c.end_by.result why mid trouble c.in-Ok.ensures
    c.end_by.ensures.status
    (worse_by why f m h (shorts c.args.out.now) (shorts c.run_scan.new.out) (shorts c.end_by.new.out)
    (λ other. c.in-Err-run_scan.ensures.sink_uncounted (λ e. other (one_err why Sink e)))
    sink_rose c.in-Err-run_scan.ensures.shortages)
    sink_rose
    (subst (λ (size : ℕ). ScanLeftTold (archived_bytes files size) name node before mid (Err why)) (has_size c.args.tables node c.in-Ok.ensures)
    c.in-Err-run_scan.ensures.scanned)
    c.end_by.ensures.written
