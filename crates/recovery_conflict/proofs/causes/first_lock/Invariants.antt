use Rattle.std.proofs.Common.{◌≡◌}
use Rattle.recovery_conflict.specs.Causes.{first_lock}
use Rattle.recovery_conflict.proofs.causes.first_lock.Given as goal

abbrev pub invariant-loop-entry : goal.invariant-loop-entry
invariant-loop-entry l = first_lock l.start l.database l.relation l.entry-iterator ≡ first_lock l.start l.database l.relation l.fn.entries
