use Rattle.worked_logs.proofs.CheckpointRules.{checkpoint_rules_break_holds}
use Rattle.worked_logs.proofs.checkpoint_rules_break.Goals as goal

pub returns : goal.returns
returns c = checkpoint_rules_break_holds
