use Rattle.std.proofs.Common.{◌≡◌}
use Rattle.std.specs.List.{list_any}
use Rattle.recovery_conflict.specs.Causes.{is_of_database}
use Rattle.recovery_conflict.proofs.causes.has_block_of.Given as goal

abbrev pub invariant-loop-block : goal.invariant-loop-block
invariant-loop-block l = list_any (is_of_database l.database) l.block-iterator ≡ list_any (is_of_database l.database) l.fn.blocks
