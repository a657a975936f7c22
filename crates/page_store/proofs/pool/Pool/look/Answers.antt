use Rattle.std.proofs.Common.{refl}
use Rattle.page_store.specs.Content.{table_count, content}
use Rattle.page_store.proofs.Blocks.{table-found, page-found, there, is_page-at, answered-page}
use Rattle.page_store.proofs.pool.Pool.look.Goals as goal

pub returns : goal.returns
unfolding table_count
returns c =
    let pool = c.args.self.now in
    let tag = c.args.tag in
    let table = c.index-table.result.now in
    let here = table-found pool tag.table table c.in-Ok.ensures.has.in_tables c.index-table.ensures in
    let bytes = c.index.result.now in
    let within = c.in-Ok.ensures.has.in_table table here in
    let held = there pool tag.table tag.block table bytes here c.in-Ok.ensures.has.below (page-found table tag.block bytes within c.index.ensures) in
    let page = is_page-at (content pool tag.table tag.block) bytes held c.in-Ok.ensures.page in
    ((refl, (λ _. tt), record { blocks = refl; tables = refl }), record { lends = tt; answer = answered-page (content pool tag.table tag.block) bytes held page; page = page })
