use Rattle.legal_session.proofs.Simulated.{begins_so_holds}
use Rattle.legal_session.proofs.life_begins_so.Goals as goal

pub returns : goal.returns
returns c = begins_so_holds
