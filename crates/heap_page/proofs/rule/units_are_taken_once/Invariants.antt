use Rattle.heap_page.proofs.Taken.{TakenBelow}
use Rattle.heap_page.proofs.rule.units_are_taken_once.Given as goal

abbrev pub invariant-loop-k : goal.invariant-loop-k
invariant-loop-k l = TakenBelow l.page l.k l.taken
