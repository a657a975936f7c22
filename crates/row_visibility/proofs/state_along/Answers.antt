use Rattle.row_visibility.proofs.Along.{state_is}
use Rattle.row_visibility.proofs.state_along.Goals as goal

pub returns : goal.returns
returns c = state_is c.state_agrees.ensures
