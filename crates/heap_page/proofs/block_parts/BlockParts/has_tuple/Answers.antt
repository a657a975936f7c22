use Rattle.std.proofs.Common.{◌≡◌, ◌-◌, ◌∙◌, ℕ, List, length, take, drop, ap, arith}
use Rattle.heap_tuple.specs.Tuple.{is_tuple}
use Rattle.heap_page.proofs.Parted as parted
use Rattle.heap_page.proofs.block_parts.BlockParts.has_tuple.Goals as goal

pub returns-then-end-self : goal.returns-then-end-self
returns-then-end-self c = c.is_tuple.ensures.value ∙ ap is_tuple (parted.front-part c.self.inside.first.now c.self.inside.rest.now c.self.invariant (c.args.end - c.args.at) c.args.at (omega (arith, c.if-end-self.true, c.requires.order)) ∙ ap (λ (page : List ℕ). take (c.args.end - c.args.at) (drop c.args.at page)) c.self.view_is)

pub returns-then-start-at : goal.returns-then-start-at
returns-then-start-at c =
    let size : c.args.end - (8192 - length c.self.inside.rest.now) - (c.args.at - (8192 - length c.self.inside.rest.now)) ≡ c.args.end - c.args.at = omega (arith, c.if-start-at.true, c.requires.order) in
    c.is_tuple-then-start-at.ensures.value ∙ ap is_tuple (ap (λ (n : ℕ). take n (drop (c.args.at - (8192 - length c.self.inside.rest.now)) c.self.inside.rest.now)) size
    ∙ (parted.rest-part c.self.inside.first.now c.self.inside.rest.now c.self.invariant (c.args.end - c.args.at) c.args.at c.if-start-at.true (omega (arith, c.requires.order, c.requires.inside)) ∙ ap (λ (page : List ℕ). take (c.args.end - c.args.at) (drop c.args.at page)) c.self.view_is))
