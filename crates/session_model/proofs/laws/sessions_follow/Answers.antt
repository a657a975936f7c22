use Rattle.session_model.proofs.Follows.{sessions_follow}
use Rattle.session_model.proofs.laws.sessions_follow.Goals as goal

pub returns : goal.returns
returns g c = λ w. sessions_follow (g.R.Simulation.StandFor w) (g.R.Simulation.first w) (g.R.Simulation.second w) (c.requires w)
