use Rattle.schema_file.specs.Meaning.{reading}
use Rattle.run_model.specs.Starts.{Scans}
use Rattle.standby_cli.proofs.Begins.{starts_by}
use Rattle.standby_cli.proofs.begin.begin_scan.Goals as goal

pub returns-in-Ok-clause-told : goal.returns-in-Ok-clause-told
returns-in-Ok-clause-told g c =
    starts_by (λ tables. Scans tables c.args.name.now) (g.B.BaseDir.files c.args.base.now) (reading c.in-Ok.file) _ c.in-Ok.ensures.told c.start_scan.ensures.meaning
