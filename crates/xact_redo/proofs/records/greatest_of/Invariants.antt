use Rattle.std.proofs.Common.{◌≡◌, fold, max}
use Rattle.known_assigned.specs.Ids.{numbers}
use Rattle.xact_redo.proofs.records.greatest_of.Given as goal

abbrev pub invariant-loop-xid : goal.invariant-loop-xid
invariant-loop-xid l = fold max l.most (numbers l.xid-iterator) ≡ fold max l.fn.first.0 (numbers l.fn.rest)
