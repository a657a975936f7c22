use Rattle.transaction_model.proofs.SnapshotLaws.{live_progress}
use Rattle.transaction_model.proofs.transactions.live_in_progress.Goals as goal

pub returns : goal.returns
returns c = live_progress
