use Rattle.session_model.proofs.NodeOnce.{node_once}
use Rattle.session_model.proofs.laws.one_step.Goals as goal

pub returns : goal.returns
returns c = node_once
