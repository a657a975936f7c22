use Rattle.std.proofs.Common.{arith}
use Rattle.table_schema.proofs.Steps.{answers_document}
use Rattle.table_schema.proofs.description.read_schema.Goals as goal

pub returns-in-Ok : goal.returns-in-Ok
returns-in-Ok c = answers_document _ _ _ (omega arith) c.in-Ok.ensures.ok.0 c.in-Ok.ensures.ok.1 c.description_in.ensures
