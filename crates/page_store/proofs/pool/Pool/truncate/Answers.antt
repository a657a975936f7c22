use Rattle.std.proofs.Common.{arith, refl}
use Rattle.page_store.specs.Content.{table_count}
use Rattle.page_store.proofs.Blocks.{table-found, content-cut}
use Rattle.page_store.proofs.pool.Pool.truncate.Goals as goal

pub returns-clause-content : goal.returns-clause-content
unfolding table_count
returns-clause-content c =
    let pool = c.args.self.now in
    let table = c.index_mut.result.now in
    let here = table-found pool c.args.table table c.requires c.index_mut.ensures.value in
    content-cut pool _ c.args.table c.args.blocks table c.truncate.new.self refl here c.truncate.ensures (omega (arith, pool.tables.ok.0, c.requires))
