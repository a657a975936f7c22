use Rattle.std.proofs.Common.{◌≡◌, ℕ, ◌<◌, true}
use Rattle.heap_page.specs.Page.{pointer_of, is_placed}
use Rattle.heap_page.proofs.rule.lines_are_placed.Given as goal

abbrev pub invariant-loop-k : goal.invariant-loop-k
invariant-loop-k l = (k : ℕ) → k < l.k → is_placed l.page (pointer_of l.page k) ≡ true
