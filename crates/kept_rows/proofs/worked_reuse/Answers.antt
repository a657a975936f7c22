use Rattle.kept_rows.proofs.WorkedReuse.{worked_reuse_is}
use Rattle.kept_rows.proofs.worked_reuse.Goals as goal

pub returns : goal.returns
returns c = worked_reuse_is c.kept_rows.ensures c.one_rows.ensures c.worked_rows.ensures
