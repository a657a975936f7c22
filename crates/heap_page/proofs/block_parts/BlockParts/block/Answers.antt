use Rattle.heap_page.proofs.Parted as parted
use Rattle.heap_page.proofs.block_parts.BlockParts.block.Goals as goal

pub returns : goal.returns
returns c = parted.joined_whole c.args.page.now c.told-page
