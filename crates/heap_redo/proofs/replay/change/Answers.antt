use Rattle.std.proofs.Common.{ap, sym, ◌∙◌, ◌≡◌, Some, is_ok}
use Rattle.std.proofs.lemmas.Result.{on_err_weaker}
use Rattle.pg_types.specs.declared.names.Tag.{Tag}
use Rattle.page_store.specs.Content.{content, with_block}
use Rattle.heap_redo.specs.Refused.{pool_fault_at}
use Rattle.page_store.specs.Seen.{view_of, seen}
use Rattle.heap_redo.specs.Redone.{redone_block, fault_by}
use Rattle.heap_redo.proofs.OneBlock.{below-last}
use Rattle.heap_redo.proofs.Views.{view-with_block, with_block-same, page-there, page-outcome, missing-outcome, err-is}
use Rattle.heap_redo.proofs.replay.change.Goals as goal

pub returns-in-Ok-clause-answer : goal.returns-in-Ok-clause-answer
returns-in-Ok-clause-answer c =
    let rec = c.args.rec.now in
    let block = c.args.block.now in
    let tag : Tag = record { table = c.args.table; block = c.args.block.now.block } in
    let blocks = content c.args.pool.now in
    let bytes = c.change_page.new.page in
    let held = (c.page.follows.holds bytes (ap is_ok c.in-Ok.is)).blocks in
    let there : blocks tag.table tag.block ≡ Some c.in-Ok.page.now =
    page-there (blocks tag.table tag.block) c.in-Ok.page.now c.in-Ok.ensures.answer in
    page-outcome rec block (view_of blocks) tag c.requires.anew (view_of (content (c.page.follows.lender bytes))) bytes
    (ap view_of held ∙ view-with_block blocks tag bytes) c.change_page.result (redone_block rec block (seen (blocks tag.table tag.block)))
    (c.change_page.ensures.answer ∙ ap (λ here. fault_by block (redone_block rec block (seen here))) (sym there))

pub returns-in-Ok-clause-err : goal.returns-in-Ok-clause-err
returns-in-Ok-clause-err c =
    let tag : Tag = record { table = c.args.table; block = c.args.block.now.block } in
    let blocks = content c.args.pool.now in
    let bytes = c.change_page.new.page in
    let held = (c.page.follows.holds bytes (ap is_ok c.in-Ok.is)).blocks in
    let there : blocks tag.table tag.block ≡ Some c.in-Ok.page.now =
    page-there (blocks tag.table tag.block) c.in-Ok.page.now c.in-Ok.ensures.answer in
    on_err_weaker c.change_page.result (λ same. held ∙ ap (with_block blocks tag) same ∙ with_block-same blocks tag c.in-Ok.page.now there) c.change_page.ensures.err

pub returns-in-Err-clause-answer : goal.returns-in-Err-clause-answer
returns-in-Err-clause-answer c =
    let rec = c.args.rec.now in
    let block = c.args.block.now in
    let tag : Tag = record { table = c.args.table; block = c.args.block.now.block } in
    let blocks = content c.args.pool.now in
    let fault = c.in-Err.fault in
    err-is c.pool_fault.result (pool_fault_at block fault) c.pool_fault.ensures
    ∙ missing-outcome rec block (view_of blocks) tag (below-last block.block c.requires.changes.below) c.requires.anew c.requires.changes.left (blocks tag.table tag.block) fault c.in-Err.ensures.answer
