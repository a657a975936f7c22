use Rattle.std.proofs.Common.{rules, ap, sym, ◌∙◌, ◌≡◌, inl, inr, Some, is_ok, true, false}
use Rattle.heap_page.specs.Page.{is_page, items_of}
use Rattle.heap_page.specs.Put.{restored}
use Rattle.pg_types.specs.declared.names.Tag.{Tag}
use Rattle.page_store.specs.Content.{content, filled_below}
use Rattle.heap_redo.specs.After.{bad_page, page_of_image}
use Rattle.heap_redo.specs.Refused.{fault_at, pool_fault_at}
use Rattle.heap_redo.specs.declared.fault.RedoFault.TheVariants.{Memory}
use Rattle.page_store.specs.Seen.{view_of, seen}
use Rattle.heap_redo.specs.Redone.{view_by, redone_block, with_seen}
use Rattle.heap_redo.proofs.OneBlock.{below-last, image-refused, image-left, image-done}
use Rattle.heap_redo.proofs.Views.{view-with_block, view-filled, image-outcome, err-is, is_ok-by}
use Rattle.heap_redo.proofs.replay.restore.Goals as goal

pub returns-then-not-shows_page : goal.returns-then-not-shows_page
returns-then-not-shows_page c =
    let rec = c.args.rec.now in
    let block = c.args.block.now in
    let image = c.args.image.now in
    let tag : Tag = record { table = c.args.table; block = c.args.block.now.block } in
    let blocks = content c.args.pool.now in
    let tested : is_page (page_of_image image) ≡ false = ap (λ bytes. is_page (restored image.hole_at bytes)) (sym c.as_slice.ensures) ∙ sym c.shows_page.ensures ∙ c.if-not-shows_page.true in
    record {
      answer = inr (err-is c.fault_at.result (fault_at block bad_page) c.fault_at.ensures
          ∙ ap (view_by rec block (view_of blocks) tag) (image-refused rec block (below-last block.block c.requires.block) image c.requires.image tested (seen (blocks tag.table tag.block))));
      err = search rules;
      tables = search rules;
    }

pub returns-in-Ok : goal.returns-in-Ok
returns-in-Ok c =
    let rec = c.args.rec.now in
    let block = c.args.block.now in
    let image = c.args.image.now in
    let tag : Tag = record { table = c.args.table; block = c.args.block.now.block } in
    let blocks = content c.args.pool.now in
    let bytes = c.set_lsn.new.self in
    let held = (c.fresh.follows.holds bytes (ap is_ok c.in-Ok.is)).blocks in
    let tested : is_page (page_of_image image) ≡ true = ap (λ shown. is_page (restored image.hole_at shown)) (sym c.as_slice.ensures) ∙ sym c.shows_page.ensures ∙ c.if-not-shows_page.false in
    let before = seen (blocks tag.table tag.block) in
    record {
      answer = inr (image-outcome rec block (view_of blocks) tag image c.requires.image (view_of (content (c.fresh.follows.lender bytes))) bytes
          (ap view_of held ∙ view-with_block (filled_below blocks tag) tag bytes ∙ ap (λ view. with_seen view tag (seen (Some bytes))) (view-filled blocks tag))
          (redone_block rec block before)
          (image-done rec block (below-last block.block c.requires.block) image c.requires.image tested before bytes c.set_lsn.ensures.page c.set_lsn.ensures.lsn
          (c.set_lsn.ensures.items ∙ ap items_of c.restore.ensures ∙ ap (λ shown. items_of (restored image.hole_at shown)) c.as_slice.ensures)));
      err = search rules;
      tables = search rules;
    }

pub returns-in-Err : goal.returns-in-Err
returns-in-Err c =
    let rec = c.args.rec.now in
    let block = c.args.block.now in
    let image = c.args.image.now in
    let tag : Tag = record { table = c.args.table; block = c.args.block.now.block } in
    let blocks = content c.args.pool.now in
    let tested : is_page (page_of_image image) ≡ true = ap (λ shown. is_page (restored image.hole_at shown)) (sym c.as_slice.ensures) ∙ sym c.shows_page.ensures ∙ c.if-not-shows_page.false in
    let before = seen (blocks tag.table tag.block) in
    record {
      answer = inl (
        err-is c.pool_fault.result Memory (c.pool_fault.ensures ∙ ap (pool_fault_at block) c.in-Err.ensures.memory),
        is_ok-by rec block (view_of blocks) tag _ (redone_block rec block before) (image-left rec block (below-last block.block c.requires.block) image c.requires.image tested before),
      );
      err = search rules;
      tables = search rules;
    }
