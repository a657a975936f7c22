use Rattle.row_model.proofs.Prefixes.{prefix_legal}
use Rattle.row_model.proofs.prefix_is_legal.Goals as goal

pub returns : goal.returns
returns c = prefix_legal
