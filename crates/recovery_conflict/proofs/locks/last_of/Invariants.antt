use Rattle.std.proofs.Common.{◌≡◌, None, drop}
use Rattle.recovery_conflict.specs.Held.{last_of}
use Rattle.recovery_conflict.proofs.locks.last_of.Given as goal

abbrev pub invariant-loop-held : goal.invariant-loop-held
invariant-loop-held l =
    last_of l.database l.relation (drop l.held-index l.locks) l.found ≡ last_of l.database l.relation l.locks None
