use Rattle.std.proofs.Common.{drop, ap, ◌∙◌, drop-drop}
use Rattle.subtrans.proofs.Order.{InOrder-drop}
use Rattle.subtrans.proofs.Subtrans.forget_below.Goals as goal

pub invariant_of-self : goal.invariant_of-self
invariant_of-self c = rw c.loop.invariant.pairs (InOrder-drop c.loop.counter c.self.inside.pairs.items c.self.invariant)

pub loop-preserved : goal.loop-preserved
loop-preserved c = record {
  pairs = c.pop_front.ensures.rest ∙ ap (drop 1) c.loop.invariant.pairs ∙ drop-drop 1 c.loop.counter c.self.inside.pairs.items;
  capacity = c.pop_front.ensures.capacity ∙ c.loop.invariant.capacity;
}
