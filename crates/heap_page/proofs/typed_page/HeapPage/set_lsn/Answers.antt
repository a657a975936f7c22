use Rattle.std.proofs.Common.{◌∙◌, ap, arith}
use Rattle.heap_page.specs.Page.{items_of}
use Rattle.heap_page.proofs.Header.{position-set}
use Rattle.heap_page.proofs.typed_page.HeapPage.set_lsn.Goals as goal

pub invariant_of-self : goal.invariant_of-self
invariant_of-self c =
    (position-set c.lay_out.new.page c.write_u32.new.page c.write_u32-2.new.page c.args.lsn.0 c.lay_out.ensures.laid (omega arith) (omega arith) c.write_u32.ensures c.write_u32-2.ensures).page

pub returns : goal.returns
returns c =
    let set = position-set c.lay_out.new.page c.write_u32.new.page c.write_u32-2.new.page c.args.lsn.0 c.lay_out.ensures.laid (omega arith) (omega arith) c.write_u32.ensures c.write_u32-2.ensures in
    record { page = set.page; items = set.items ∙ c.lay_out.ensures.items ∙ ap items_of c.self.view_is; lsn = set.lsn }
