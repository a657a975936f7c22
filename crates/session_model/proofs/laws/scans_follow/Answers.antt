use Rattle.session_model.proofs.ScansFollow.{scans_follow}
use Rattle.session_model.proofs.laws.scans_follow.Goals as goal

pub returns : goal.returns
returns g c = λ w. scans_follow (g.R.Simulation.StandFor w) (g.R.Simulation.first w) (g.R.Simulation.second w) (c.requires w)
