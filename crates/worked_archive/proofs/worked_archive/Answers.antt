use Rattle.worked_archive.proofs.Reading.{is_worked}
use Rattle.worked_archive.proofs.worked_archive.Goals as goal

pub returns : goal.returns
returns c = is_worked
