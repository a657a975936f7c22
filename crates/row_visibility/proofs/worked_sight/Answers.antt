use Rattle.row_visibility.proofs.WorkedSight.{worked_sight_is}
use Rattle.row_visibility.proofs.worked_sight.Goals as goal

pub returns : goal.returns
returns c = worked_sight_is c.worked_rows.ensures
