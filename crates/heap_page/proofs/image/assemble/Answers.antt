use Rattle.std.proofs.Common.{arith}
use Rattle.heap_page.specs.Joined.{joined}
use Rattle.heap_page.proofs.Restored.{assembled}
use Rattle.heap_page.proofs.image.assemble.Goals as goal

pub returns : goal.returns
unfolding joined
returns c =
    assembled c.args.page.now c.write_bytes.new.page c.write_zeros.new.page c.write_bytes-2.new.page c.args.first.now c.args.rest.now (omega arith) c.requires c.write_bytes.ensures c.write_zeros.ensures c.write_bytes-2.ensures
