use Rattle.session_model.specs.NodeSteps.{NodeStep}
use Rattle.session_model.proofs.Talking as talking
use Rattle.session_model.proofs.laws.talks_on.Goals as goal

pub returns : goal.returns
returns c = λ byte. talking.talks_on (NodeStep byte)
