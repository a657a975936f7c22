use Rattle.std.proofs.Common.{◌-◌, ◌++◌, arith, ap, replicate, take, ◌∙◌}
use Rattle.page_store.specs.Content.{zeros}
use Rattle.page_store.proofs.Blocks.{resized}
use Rattle.page_store.proofs.table.Table.extend.Goals as goal

pub returns-in_ok-resize-clause-ok : goal.returns-in_ok-resize-clause-ok
unfolding zeros
returns-in_ok-resize-clause-ok c =
    let pages = c.args.self.now.pages in
    c.in_ok-resize.ensures.items
    ∙ ap (λ page. take c.args.blocks pages.items ++ replicate (c.args.blocks - pages.len) page) c.zeros.ensures
    ∙ resized pages.items c.args.blocks pages.len pages.ok.0 (omega (arith, pages.ok.0))
