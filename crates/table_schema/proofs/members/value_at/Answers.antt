use Rattle.toml.proofs.Views.{table_get}
use Rattle.table_schema.proofs.members.value_at.Goals as goal

pub returns : goal.returns
returns c = table_get c.get.result c.args.word.now c.args.members.now.entries c.get.ensures.value
