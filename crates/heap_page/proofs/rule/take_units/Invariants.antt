use Rattle.std.proofs.Common.{◌≡◌, ℕ, ◌<◌, ◌≤◌, true, false, get_or}
use Rattle.heap_page.specs.Unit.{AreFree}
use Rattle.heap_page.proofs.rule.take_units.Given as goal

abbrev pub invariant-loop-unit : goal.invariant-loop-unit
invariant-loop-unit l = record {
  free : AreFree l.initial.taken l.first l.unit;
  inside : (u : ℕ) → l.first ≤ u → u < l.unit → get_or l.taken u false ≡ true;
  before : (u : ℕ) → u < l.first → get_or l.taken u false ≡ get_or l.initial.taken u false;
  past : (u : ℕ) → l.unit ≤ u → get_or l.taken u false ≡ get_or l.initial.taken u false;
}
