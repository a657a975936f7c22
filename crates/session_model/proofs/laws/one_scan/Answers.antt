use Rattle.session_model.specs.NodeSteps.{NodeStep}
use Rattle.session_model.proofs.Once.{scans_once}
use Rattle.session_model.proofs.laws.one_scan.Goals as goal

pub returns : goal.returns
returns c = λ byte. scans_once (NodeStep byte) (c.one_step.ensures byte)
