use Rattle.worked_logs.proofs.Broken.{each_breaks_holds}
use Rattle.worked_logs.proofs.each_breaks.Goals as goal

pub returns : goal.returns
returns c = each_breaks_holds c.worked_rows.ensures.legal
