use Rattle.worked_logs.proofs.Legal.{keeping_is_legal_holds}
use Rattle.worked_logs.proofs.keeping_is_legal.Goals as goal

pub returns : goal.returns
returns c = keeping_is_legal_holds
