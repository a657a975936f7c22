use Rattle.transaction_model.proofs.Promotion.{promotion_legal}
use Rattle.transaction_model.proofs.transactions.promotion_legal.Goals as goal

pub returns : goal.returns
returns c = promotion_legal
