use Rattle.std.proofs.Common.{◌≡◌, ◌++◌, drop}
use Rattle.std.specs.List.{flat_map}
use Rattle.wal_record.specs.New.{payload_of}
use Rattle.wal_record.proofs.encoding.put_payloads.Given as goal

-- what was written and the payloads of the blocks that are left are those of all
abbrev pub invariant-loop-block : goal.invariant-loop-block
invariant-loop-block l = l.out.items ++ flat_map payload_of (drop l.block-index l.blocks) ≡ l.fn.out.items ++ flat_map payload_of l.blocks
