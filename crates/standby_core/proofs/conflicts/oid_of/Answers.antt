use Rattle.table_schema.specs.Description.{table_at}
use Rattle.standby_core.proofs.Cancelled.{oid_is}
use Rattle.standby_core.proofs.conflicts.oid_of.Goals as goal

pub returns : goal.returns
returns c = oid_is (table_at c.args.tables.now c.args.table) c.oid.result c.oid.ensures
