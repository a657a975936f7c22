use Rattle.worked_logs.proofs.SecondLog.{second_log_is}
use Rattle.worked_logs.proofs.second_log.Goals as goal

pub returns : goal.returns
returns c = second_log_is c.worked_rows.ensures.legal.transactions
