use Rattle.heap_page.proofs.Parted.{joined_image}
use Rattle.heap_page.proofs.image.image_parts.Goals as goal

pub returns-clause-joined : goal.returns-clause-joined
returns-clause-joined c = joined_image c.args.image.now.hole_at c.min-hole_at.result c.args.image.now.bytes.now c.split_at.result.0.now c.split_at.result.1.now c.min-hole_at.ensures c.split_at.ensures.front c.split_at.ensures.back
