use Rattle.std.proofs.Common.{ap, ◌∙◌}
use Rattle.page_store.specs.Content.{content}
use Rattle.page_store.specs.Seen.{view_of}
use Rattle.heap_redo.specs.Redone.{cut_file}
use Rattle.heap_redo.proofs.Cuts.{view-truncated}
use Rattle.heap_redo.proofs.cut.cut_file.Goals as goal

pub returns-in-Some-clause-view : goal.returns-in-Some-clause-view
returns-in-Some-clause-view c =
    let blocks = content c.args.pool.now in
    ap view_of c.truncate.ensures.content ∙ view-truncated blocks c.in-Some.table c.args.blocks
    ∙ ap (cut_file (view_of blocks) c.args.blocks) c.in-Some.ensures.value
