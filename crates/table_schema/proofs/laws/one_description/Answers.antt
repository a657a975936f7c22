use Rattle.table_schema.proofs.Named.{one_description_holds}
use Rattle.table_schema.proofs.laws.one_description.Goals as goal

pub returns : goal.returns
returns c = one_description_holds
