use Rattle.std.proofs.Common.{◌≡◌}
use Rattle.std.specs.List.{list_any}
use Rattle.wal_bodies.specs.Typed.{is_last}
use Rattle.wal_bodies.proofs.typed.has_last.Given as goal

abbrev pub invariant-loop-xid : goal.invariant-loop-xid
invariant-loop-xid l = list_any is_last l.xid-iterator ≡ list_any is_last l.fn.xids
