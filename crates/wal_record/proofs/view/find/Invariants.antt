use Rattle.std.proofs.Common.{◌-◌, ◌*◌, ◌≤◌, length}
use Rattle.wal_record.specs.Record.{block_by_id}
use Rattle.wal_record.specs.Decoded.{blocks_in}
use Rattle.wal_record.proofs.Finding.{Finds}
use Rattle.wal_record.proofs.view.find.Given as goal

-- the block that is found among the parts that are left is the block
abbrev pub invariant-loop : goal.invariant-loop
invariant-loop l = record {
  bounded : l.seen.blocks ≤ 131070 * l.counter;
  leads : Finds (length l.text - l.counter) l.seen l.rest l.payloads l.id (block_by_id l.id (blocks_in l.text l.payloads));
}
