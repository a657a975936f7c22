use Rattle.table_schema.proofs.Named.{refusals_are_named_holds}
use Rattle.table_schema.proofs.laws.refusals_are_named.Goals as goal

pub returns : goal.returns
returns c = refusals_are_named_holds
