use Rattle.std.proofs.Common.{arith, refl}
use Rattle.page_store.specs.Content.{table_count, content}
use Rattle.std.specs.Vec.{with_item}
use Rattle.page_store.specs.Lending.{with_page}
use Rattle.page_store.proofs.Blocks.{table-found, there, is_page-at, answered-page, holds-block}
use Rattle.page_store.proofs.pool.Pool.page.Goals as goal

pub returns : goal.returns
unfolding table_count
returns c =
    let pool = c.args.self.now in
    let tag = c.args.tag in
    let table = c.index_mut-table.result.now in
    let has = c.in-Ok.ensures.has in
    let here = table-found pool tag.table table has.in_tables c.index_mut-table.ensures.value in
    let bytes = c.block_mut.result.now in
    let held = there pool tag.table tag.block table bytes here has.below c.block_mut.ensures.value in
    let page = is_page-at (content pool tag.table tag.block) bytes held c.in-Ok.ensures.page in (
      (
        refl,
        (λ w _. holds-block pool (record { tables = with_item pool.tables tag.table (with_page table tag.block w) }) tag table (with_page table tag.block w) w (record {
          tables = refl;
          here = here;
          pages = refl;
          in_tables = omega (arith, has.in_tables, pool.tables.ok.0);
          in_table = omega (arith, has.in_table table here, table.pages.ok.0);
          below = has.below;
        }) refl),
        tt,
      ),
      record { lends = tt; answer = answered-page (content pool tag.table tag.block) bytes held page; page = page },
    )
