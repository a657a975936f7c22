use Rattle.std.proofs.Common.{◌≡◌, ◌++◌}
use Rattle.xact_redo.proofs.room.push_all.Given as goal

abbrev pub invariant-loop-xid : goal.invariant-loop-xid
invariant-loop-xid l = l.list ++ l.xid-iterator ≡ l.fn.xids
