use Rattle.std.proofs.Common.{◌∙◌, ℕ, List, ap}
use Rattle.pg_types.specs.Numbers.{number_at}
use Rattle.heap_page.proofs.Parted as parted
use Rattle.heap_page.proofs.block_parts.BlockParts.u32_at.Goals as goal

pub returns-then-at-self : goal.returns-then-at-self
returns-then-at-self c = c.u32_at.ensures ∙ (parted.front-number c.self.inside.first.now c.self.inside.rest.now c.self.invariant 4 c.args.at c.if-at-self.true ∙ ap (λ (page : List ℕ). number_at 4 page c.args.at) c.self.view_is)

pub returns-then-start-at : goal.returns-then-start-at
returns-then-start-at c = c.u32_at-then-start-at.ensures ∙ (parted.rest-number c.self.inside.first.now c.self.inside.rest.now c.self.invariant 4 c.args.at c.if-start-at.true ∙ ap (λ (page : List ℕ). number_at 4 page c.args.at) c.self.view_is)

pub returns-else-start-at : goal.returns-else-start-at
returns-else-start-at c = c.u32_at-else-start-at.ensures ∙ parted.four_bytes c.args.self.now c.args.at _ _ _ _ c.byte_at.ensures c.byte_at-else-start-at.ensures c.byte_at-else-start-at-2.ensures c.byte_at-else-start-at-3.ensures
