use Rattle.std.proofs.Common.{rules, ap, ◌∙◌, inr, Some, is_ok}
use Rattle.pg_types.specs.declared.names.Tag.{Tag}
use Rattle.page_store.specs.Content.{content, filled_below}
use Rattle.page_store.specs.Seen.{view_of, seen}
use Rattle.heap_redo.specs.Redone.{redone_block, with_seen}
use Rattle.heap_redo.proofs.Views.{view-with_block, view-filled, anew-outcome}
use Rattle.heap_redo.proofs.replay.rebuild.Goals as goal

pub returns-in-Ok : goal.returns-in-Ok
returns-in-Ok c =
    let rec = c.args.rec.now in
    let block = c.args.block.now in
    let tag : Tag = record { table = c.args.table; block = c.args.block.now.block } in
    let blocks = content c.args.pool.now in
    let bytes = c.anew.new.page in
    let held = (c.fresh.follows.holds bytes (ap is_ok c.in-Ok.is)).blocks in
    record {
      answer = inr (anew-outcome rec block (view_of blocks) tag c.requires.anew c.requires.changes.left (view_of (content (c.fresh.follows.lender bytes))) bytes
          (ap view_of held ∙ view-with_block (filled_below blocks tag) tag bytes ∙ ap (λ view. with_seen view tag (seen (Some bytes))) (view-filled blocks tag))
          (redone_block rec block (seen (blocks tag.table tag.block))) (c.in_default.ensures (seen (blocks tag.table tag.block))));
      err = search rules;
      tables = search rules;
    }
