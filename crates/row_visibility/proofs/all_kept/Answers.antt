use Rattle.row_visibility.proofs.Forgetting.{all_kept_is}
use Rattle.row_visibility.proofs.all_kept.Goals as goal

pub returns : goal.returns
returns c = all_kept_is
