use Rattle.worked_premise.proofs.Fronts.{files_are_legal}
use Rattle.worked_premise.proofs.files_are_legal.Goals as goal

pub returns : goal.returns
returns c = files_are_legal c.worked_archive.ensures c.archive_is_legal.ensures c.prefix_is_legal.ensures
