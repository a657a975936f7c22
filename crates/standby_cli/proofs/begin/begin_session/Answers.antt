use Rattle.schema_file.specs.Meaning.{reading}
use Rattle.run_model.specs.Starts.{Holds}
use Rattle.standby_cli.proofs.Begins.{starts_by}
use Rattle.standby_cli.proofs.begin.begin_session.Goals as goal

pub returns-in-Ok-clause-told : goal.returns-in-Ok-clause-told
returns-in-Ok-clause-told g c =
    starts_by Holds (g.B.BaseDir.files c.args.base.now) (reading c.in-Ok.file) _ c.in-Ok.ensures.told c.start_session.ensures.meaning
