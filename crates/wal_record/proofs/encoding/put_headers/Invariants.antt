use Rattle.std.proofs.Common.{◌≡◌, ◌++◌, drop, None}
use Rattle.wal_record.proofs.Written.{headers_text}
use Rattle.wal_record.proofs.encoding.put_headers.Given as goal

-- what was written and the headers of the blocks that are left are those of all
abbrev pub invariant-loop-block : goal.invariant-loop-block
invariant-loop-block l = l.out.items ++ headers_text l.before (drop l.block-index l.blocks) ≡ l.fn.out.items ++ headers_text None l.blocks
