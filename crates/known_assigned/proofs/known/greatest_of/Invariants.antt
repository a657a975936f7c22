use Rattle.std.proofs.Common.{◌≡◌, drop, fold, max}
use Rattle.known_assigned.specs.Ids.{numbers}
use Rattle.known_assigned.proofs.known.greatest_of.Given as goal

abbrev pub invariant-loop-xid : goal.invariant-loop-xid
invariant-loop-xid l = fold max l.most (numbers (drop l.xid-index l.rest)) ≡ fold max (max l.start l.first) (numbers l.rest)
