use Rattle.wal_reader.proofs.StepsOn.{steps_on_lem}
use Rattle.wal_reader.proofs.laws.steps_on.Goals as goal

pub returns : goal.returns
returns c = steps_on_lem
