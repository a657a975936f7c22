use Rattle.table_schema.proofs.Apart.{tables_are_apart_holds}
use Rattle.table_schema.proofs.laws.tables_are_apart.Goals as goal

pub returns : goal.returns
returns c = tables_are_apart_holds
