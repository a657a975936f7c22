use Rattle.worked_logs.proofs.Legal.{legal_keeps_holds}
use Rattle.worked_logs.proofs.legal_keeps.Goals as goal

pub returns : goal.returns
returns c = legal_keeps_holds
