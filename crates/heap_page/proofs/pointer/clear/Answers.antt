use Rattle.heap_page.proofs.Header.{cleared}
use Rattle.heap_page.proofs.pointer.clear.Goals as goal

pub returns : goal.returns
returns c = cleared c.args.page.now c.write_u16.new.page c.write_u16-2.new.page c.requires c.told-page c.write_u16.ensures c.write_u16-2.ensures
