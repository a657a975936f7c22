use Rattle.transaction_model.proofs.Promotion.{one_xmin}
use Rattle.transaction_model.proofs.transactions.one_xmin.Goals as goal

pub returns : goal.returns
returns c = one_xmin
