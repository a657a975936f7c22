use Rattle.legal_session.proofs.AtEnd.{front_holds, scan_at_end_holds}
use Rattle.legal_session.proofs.scan_at_end_gives_rows.Goals as goal

pub returns-clause-whole : goal.returns-clause-whole
returns-clause-whole c = scan_at_end_holds c.scans_give_rows.ensures

pub returns-clause-front : goal.returns-clause-front
returns-clause-front c = front_holds c.scans_give_rows.ensures
