use Rattle.worked_logs.proofs.MultixactLog.{multixact_log_is}
use Rattle.worked_logs.proofs.multixact_log.Goals as goal

pub returns : goal.returns
returns c = multixact_log_is c.prefix_is_legal.ensures c.worked_rows.ensures.legal
