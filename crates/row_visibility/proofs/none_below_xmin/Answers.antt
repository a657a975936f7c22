use Rattle.row_visibility.proofs.Forgetting.{none_below_is}
use Rattle.row_visibility.proofs.none_below_xmin.Goals as goal

pub returns : goal.returns
returns c = none_below_is
