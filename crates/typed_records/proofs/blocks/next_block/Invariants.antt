use Rattle.std.proofs.Common.{◌≡◌, ◌-◌}
use Rattle.typed_records.specs.Stored.{blocks_to}
use Rattle.typed_records.proofs.blocks.next_block.Given as goal

abbrev pub invariant-loop-id : goal.invariant-loop-id
invariant-loop-id l = blocks_to l.view l.tuples l.id (l.ids - l.id) ≡ blocks_to l.view l.tuples l.from (l.ids - l.from)
