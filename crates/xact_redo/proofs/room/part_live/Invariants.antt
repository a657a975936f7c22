use Rattle.std.proofs.Common.{◌≡◌, ◌++◌, filter, fold, max, not}
use Rattle.commit_log.specs.Log.{status_of}
use Rattle.known_assigned.specs.Ids.{numbers}
use Rattle.xact_redo.specs.State.{has_ended}
use Rattle.xact_redo.proofs.room.part_live.Given as goal

abbrev pub invariant-loop-xid : goal.invariant-loop-xid
invariant-loop-xid l = record {
  live :
      numbers l.live ++ filter (λ x. not (has_ended (status_of l.log x))) (numbers l.xid-iterator)
      ≡ filter (λ x. not (has_ended (status_of l.log x))) (numbers l.fn.xids);
  greatest :
      fold max l.most (filter (λ x. has_ended (status_of l.log x)) (numbers l.xid-iterator))
      ≡ fold max 0 (filter (λ x. has_ended (status_of l.log x)) (numbers l.fn.xids));
}
