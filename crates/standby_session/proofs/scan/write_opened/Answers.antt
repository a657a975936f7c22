use Rattle.standby_core.specs.View.{standby}
use Rattle.standby_session.proofs.Scanning.{opened_scan}
use Rattle.standby_session.proofs.scan.write_opened.Goals as goal

pub returns-in-Scan-clause-told : goal.returns-in-Scan-clause-told
returns-in-Scan-clause-told g c =
    opened_scan c.args.opened c.in-Scan.id c.in-Scan.at (standby c.args.node.now) _ _ c.write_pages.result c.in-Scan.is c.write_pages.ensures.told
