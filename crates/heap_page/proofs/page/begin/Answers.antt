use Rattle.std.proofs.Common.{arith}
use Rattle.heap_page.proofs.Header.{fresh}
use Rattle.heap_page.proofs.page.begin.Goals as goal

pub returns : goal.returns
returns c =
    fresh c.args.page.now c.write_u16.new.page c.write_u16-2.new.page c.write_u16-3.new.page c.write_u16-4.new.page (omega arith) c.requires c.write_u16.ensures c.write_u16-2.ensures c.write_u16-3.ensures c.write_u16-4.ensures
