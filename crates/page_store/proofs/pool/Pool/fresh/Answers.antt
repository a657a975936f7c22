use Rattle.std.proofs.Common.{arith, refl, sym, ◌∙◌, ap, subst}
use Rattle.page_store.specs.Content.{table_count, content, with_block, filled_below}
use Rattle.page_store.specs.Held.{IsInitial}
use Rattle.std.specs.Vec.{with_item}
use Rattle.page_store.specs.Lending.{with_page}
use Rattle.page_store.proofs.Blocks.{table-found, there, holds-block, with_block-again, with_block-here, same_some}
use Rattle.page_store.proofs.pool.Pool.fresh.Goals as goal

pub returns : goal.returns
unfolding table_count
returns c =
    let pool = c.freshen.new.self in
    let tag = c.args.tag in
    let table = c.index_mut-table.result.now in
    let done = c.in-Ok.ensures.ok in
    let here = table-found pool tag.table table done.has.in_tables c.index_mut-table.ensures.value in
    let bytes = c.block_mut.result.now in
    let held = there pool tag.table tag.block table bytes here done.has.below c.block_mut.ensures.value in
    let filled = filled_below (content c.args.self.now) tag in
    let same = same_some done.page bytes (sym (ap (λ blocks. blocks tag.table tag.block) done.blocks ∙ with_block-here filled tag done.page) ∙ held) in (
      (
        refl,
        (λ w _. let holds = holds-block pool (record { tables = with_item pool.tables tag.table (with_page table tag.block w) }) tag table (with_page table tag.block w) w (record {
          tables = refl;
          here = here;
          pages = refl;
          in_tables = omega (arith, done.has.in_tables, pool.tables.ok.0);
          in_table = omega (arith, done.has.in_table table here, table.pages.ok.0);
          below = done.has.below;
        }) refl in record {
          blocks = holds.blocks ∙ ap (λ blocks. with_block blocks tag w) done.blocks ∙ with_block-again filled tag done.page w;
          tables = holds.tables ∙ done.tables;
        }),
        tt,
      ),
      record { lends = tt; page = subst IsInitial same done.initial; memory = tt },
    )
