use Rattle.row_model.proofs.Stays.{always_stay}
use Rattle.row_model.proofs.deleters_stay.Goals as goal

pub returns : goal.returns
returns c = always_stay
