use Rattle.transaction_model.proofs.SnapshotLaws.{snapshot_decides}
use Rattle.transaction_model.proofs.transactions.snapshot_decides.Goals as goal

pub returns : goal.returns
returns c = snapshot_decides
