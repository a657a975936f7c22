-- What the program's own types mean in the model.
use Rattle.run_model.specs.Starts as run
use Rattle.standby_cli.specs.declared.begin.Command.{Command}
use Rattle.standby_cli.specs.declared.begin.Command.TheVariants as command
use Rattle.standby_cli.specs.declared.begin.Rejection.{Rejection}
use Rattle.standby_cli.specs.declared.begin.Rejection.TheVariants as rejection
use Rattle.standby_cli.specs.declared.begin.Start.{Start}
use Rattle.standby_cli.specs.declared.begin.Start.TheVariants as start

abbrev pub command_meaning : Command → run.Command
command_meaning (command.Scan name) = run.ScansTable name.now
command_meaning command.Session = run.HoldsSession
command_meaning command.Unknown = run.NoCommand

abbrev pub rejection_meaning : Rejection → run.Rejection
rejection_meaning rejection.BadWords = run.BadWords
rejection_meaning rejection.SchemaMissing = run.SchemaMissing
rejection_meaning (rejection.SchemaRefused fault) = run.SchemaRefused fault

abbrev pub start_meaning : Start → run.Start
start_meaning (start.Rejected rejection) = run.Rejects (rejection_meaning rejection)
start_meaning (start.Scans tables name) = run.Scans tables name.now
start_meaning (start.Holds tables) = run.Holds tables
