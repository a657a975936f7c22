use Rattle.transaction_model.proofs.WorkedLife.{worked_life_is}
use Rattle.transaction_model.proofs.transactions.worked_life.Goals as goal

pub returns : goal.returns
returns c = worked_life_is
