use Rattle.row_visibility.proofs.Visible.{sees_along}
use Rattle.row_visibility.proofs.sees_rows.Goals as goal

pub returns : goal.returns
returns c = sees_along c.state_agrees.ensures c.snapshot_decides.ensures
