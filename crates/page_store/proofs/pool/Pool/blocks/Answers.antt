use Rattle.std.proofs.Common.{ap, ◌∙◌, min}
use Rattle.page_store.specs.Content.{table_count}
use Rattle.page_store.proofs.Blocks.{table-found, has-below, below-has}
use Rattle.page_store.proofs.pool.Pool.blocks.Goals as goal

pub returns : goal.returns
unfolding table_count
returns c block =
    let pool = c.args.self.now in
    let here = table-found pool c.args.table c.index.result.now c.requires c.index.ensures in
    let count = c.min.ensures ∙ ap (λ len. min len 4294967295) c.len-len.ensures in (
      has-below pool c.args.table block c.min.result c.index.result.now here count,
      below-has pool c.args.table block c.min.result c.index.result.now here count,
    )
