use Rattle.standby_model.proofs.Logs.{log_rises_holds}
use Rattle.standby_model.proofs.log_rises.Goals as goal

pub returns : goal.returns
returns c = log_rises_holds c.steps_on.ensures
