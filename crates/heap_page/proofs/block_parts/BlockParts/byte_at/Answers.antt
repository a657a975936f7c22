use Rattle.std.proofs.Common.{◌∙◌, ℕ, List, get_or, ap, arith}
use Rattle.heap_page.proofs.Parted as parted
use Rattle.heap_page.proofs.block_parts.BlockParts.byte_at.Goals as goal

pub returns-then-at-self : goal.returns-then-at-self
returns-then-at-self c = parted.front-at c.self.inside.first.now c.self.inside.rest.now c.self.invariant c.args.at c.if-at-self.true ∙ ap (λ (page : List ℕ). get_or page c.args.at 0) c.self.view_is

pub returns-then-start-at : goal.returns-then-start-at
returns-then-start-at c = parted.rest-at c.self.inside.first.now c.self.inside.rest.now c.self.invariant c.args.at c.if-start-at.true ∙ ap (λ (page : List ℕ). get_or page c.args.at 0) c.self.view_is

pub returns-else-start-at : goal.returns-else-start-at
returns-else-start-at c = parted.hole-at c.self.inside.first.now c.self.inside.rest.now c.self.invariant c.args.at (omega (arith, c.if-at-self.false)) (omega (arith, c.if-start-at.false)) ∙ ap (λ (page : List ℕ). get_or page c.args.at 0) c.self.view_is
