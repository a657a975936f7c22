use Rattle.std.proofs.Common.{◌≡◌, drop}
use Rattle.std.specs.VecDeque.{deque_capacity}
use Rattle.subtrans.proofs.Subtrans.forget_below.Given as goal

abbrev pub invariant-loop : goal.invariant-loop
invariant-loop l = record {
  pairs : l.self-inside.pairs.items ≡ drop l.counter l.initial.self-inside.pairs.items;
  capacity : deque_capacity l.self-inside.pairs ≡ deque_capacity l.initial.self-inside.pairs;
}
