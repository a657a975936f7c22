use Rattle.standby_core.specs.View.{standby}
use Rattle.standby_session.proofs.Scanning.{scan_failed, scan_read, scan_refused, scan_short}
use Rattle.standby_session.proofs.scan.run_scan.Goals as goal

pub returns-in-Err-Memory-clause-scanned : goal.returns-in-Err-Memory-clause-scanned
returns-in-Err-Memory-clause-scanned g c = scan_short _ c.args.table.now (standby c.args.node.now) (g.O.Sink.written c.args.out.now)

pub returns-in-Err-Archive-clause-scanned : goal.returns-in-Err-Archive-clause-scanned
returns-in-Err-Archive-clause-scanned g c = scan_failed _ c.args.table.now (standby c.args.node.now) (g.O.Sink.written c.args.out.now)

pub returns-in-Ok-Some-clause-scanned : goal.returns-in-Ok-Some-clause-scanned
returns-in-Ok-Some-clause-scanned g c =
    scan_refused _ c.args.table.now (standby c.args.node.now) (standby c.replay_all.new.node) c.in-Ok-Some.at c.in-Ok-Some.what _ _ c.write_refused.result
    (rw c.in-Ok-Some.field-0-is at c.in-Ok-Some.ensures.told) c.write_refused.ensures.told

pub returns-in-Ok-None-clause-scanned : goal.returns-in-Ok-None-clause-scanned
returns-in-Ok-None-clause-scanned g c =
    scan_read _ c.args.table.now (standby c.args.node.now) (standby c.replay_all.new.node) _ _ c.scan_table.result
    (rw c.in-Ok-None.field-0-is at c.in-Ok-None.ensures.told) c.scan_table.ensures.told
