use Rattle.schema_file.proofs.Fronts.{some_text}
use Rattle.schema_file.proofs.file.read_tables.Goals as goal

pub returns-in-Ok-Some-clause-some : goal.returns-in-Ok-Some-clause-some
returns-in-Ok-Some-clause-some g c = some_text c.tables_in.result _ c.tables_in.ensures.says
