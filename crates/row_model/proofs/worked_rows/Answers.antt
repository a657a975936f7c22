use Rattle.row_model.proofs.WorkedLog.{worked_rows_are}
use Rattle.row_model.proofs.worked_rows.Goals as goal

pub returns : goal.returns
returns c = worked_rows_are
