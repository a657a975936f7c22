use Rattle.record_numbers.proofs.Typing.{typed-fits}
use Rattle.record_numbers.proofs.typed_fits.Goals as goal

pub returns : goal.returns
returns c = typed-fits
