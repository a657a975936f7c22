use Rattle.row_model.proofs.Places.{one_rows_holds}
use Rattle.row_model.proofs.one_rows.Goals as goal

pub returns : goal.returns
returns c = one_rows_holds
