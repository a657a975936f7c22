use Rattle.record_numbers.proofs.Gathering.{told-fit}
use Rattle.record_numbers.proofs.told_numbers_fit.Goals as goal

pub returns : goal.returns
returns c = told-fit c.read_is_of_bytes.ensures c.typed_fits.ensures
