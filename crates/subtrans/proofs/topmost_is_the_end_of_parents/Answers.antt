use Rattle.subtrans.proofs.Order.{follows_parents}
use Rattle.subtrans.proofs.topmost_is_the_end_of_parents.Goals as goal

pub returns : goal.returns
returns c = follows_parents
