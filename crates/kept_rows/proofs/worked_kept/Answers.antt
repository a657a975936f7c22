use Rattle.kept_rows.proofs.WorkedKept.{worked_kept_is}
use Rattle.kept_rows.proofs.worked_kept.Goals as goal

pub returns : goal.returns
returns c = worked_kept_is c.kept_rows.ensures c.one_rows.ensures c.worked_rows.ensures
