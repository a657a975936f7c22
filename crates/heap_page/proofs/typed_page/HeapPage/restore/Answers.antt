use Rattle.heap_page.proofs.Restored.{short-image}
use Rattle.heap_page.proofs.typed_page.HeapPage.restore.Goals as goal

pub assemble_image-requires : goal.assemble_image-requires
assemble_image-requires c = short-image c.args.image.now.hole_at c.args.image.now.bytes.now c.requires
