use Rattle.worked_logs.proofs.RemovalLog.{removal_log_is}
use Rattle.worked_logs.proofs.removal_log.Goals as goal

pub returns : goal.returns
returns c = removal_log_is c.worked_rows.ensures.legal
