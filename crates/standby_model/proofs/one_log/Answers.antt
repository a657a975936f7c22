use Rattle.standby_model.proofs.Logs.{one_log_holds}
use Rattle.standby_model.proofs.one_log.Goals as goal

pub returns : goal.returns
returns c = one_log_holds
