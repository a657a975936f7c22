use Rattle.worked_logs.proofs.EndRules.{end_rules_break_holds}
use Rattle.worked_logs.proofs.end_rules_break.Goals as goal

pub returns : goal.returns
returns c = end_rules_break_holds
