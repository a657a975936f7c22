use Rattle.row_visibility.proofs.Along.{xmin_is}
use Rattle.row_visibility.proofs.xmin_along.Goals as goal

pub returns : goal.returns
returns c = xmin_is c.state_agrees.ensures c.xmin_agrees.ensures
