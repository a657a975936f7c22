use Rattle.page_store.proofs.Blocks.{content-empty}
use Rattle.page_store.proofs.pool.Pool.plain.Goals as goal

pub returns-clause-blocks : goal.returns-clause-blocks
returns-clause-blocks c table block = content-empty c.loop.pool table block c.loop.invariant.empty
