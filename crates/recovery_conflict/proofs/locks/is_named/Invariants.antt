use Rattle.std.proofs.Common.{◌≡◌}
use Rattle.known_assigned.specs.Ids.{is_among, numbers}
use Rattle.recovery_conflict.proofs.locks.is_named.Given as goal

abbrev pub invariant-loop-sub : goal.invariant-loop-sub
invariant-loop-sub l = is_among l.xid.0 (numbers l.sub-iterator) ≡ is_among l.xid.0 (numbers l.fn.subs)
