use Rattle.transaction_model.proofs.States.{state_agrees}
use Rattle.transaction_model.proofs.transactions.state_agrees.Goals as goal

pub returns : goal.returns
returns c = state_agrees
