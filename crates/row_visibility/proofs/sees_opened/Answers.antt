use Rattle.row_visibility.proofs.Visible.{sees_then}
use Rattle.row_visibility.proofs.sees_opened.Goals as goal

pub returns : goal.returns
returns c = sees_then c.state_agrees.ensures c.snapshot_decides.ensures
