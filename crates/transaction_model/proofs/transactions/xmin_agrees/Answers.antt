use Rattle.transaction_model.proofs.SnapshotLaws.{xmin_agrees}
use Rattle.transaction_model.proofs.transactions.xmin_agrees.Goals as goal

pub returns : goal.returns
returns c = xmin_agrees
