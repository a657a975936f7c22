use Rattle.run_model.proofs.Beginning.{one_start}
use Rattle.run_model.proofs.one_start.Goals as goal

pub returns : goal.returns
returns c = one_start
