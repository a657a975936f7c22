use Rattle.std.proofs.Common.{◌∙◌, length, sym, ap}
use Rattle.heap_page.proofs.Parted as parted
use Rattle.heap_page.proofs.block_parts.BlockParts.keeps_size.Goals as goal

pub returns : goal.returns
returns c = sym (ap length c.self.view_is) ∙ parted.size c.self.inside.first.now c.self.inside.rest.now c.self.invariant
