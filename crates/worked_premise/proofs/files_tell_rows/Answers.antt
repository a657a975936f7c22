use Rattle.worked_premise.proofs.Rows.{files_tell_rows}
use Rattle.worked_premise.proofs.files_tell_rows.Goals as goal

pub returns : goal.returns
returns c = files_tell_rows c.worked_archive.ensures c.one_rows.ensures
