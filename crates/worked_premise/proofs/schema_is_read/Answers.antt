use Rattle.worked_premise.proofs.Schema.{schema_is_read}
use Rattle.worked_premise.proofs.schema_is_read.Goals as goal

pub returns : goal.returns
returns c = schema_is_read
