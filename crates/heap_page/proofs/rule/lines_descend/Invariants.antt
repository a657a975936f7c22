use Rattle.heap_page.proofs.Taken.{Descends}
use Rattle.heap_page.proofs.rule.lines_descend.Given as goal

abbrev pub invariant-loop-k : goal.invariant-loop-k
invariant-loop-k l = Descends l.page l.k l.lowest
