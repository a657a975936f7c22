use Rattle.heap_page.proofs.Rooms.{tuple-of-page}
use Rattle.heap_page.proofs.laws.tuples_keep_their_rule.Goals as goal

pub returns : goal.returns
returns c = λ page n bytes h e. tuple-of-page page n bytes h e
