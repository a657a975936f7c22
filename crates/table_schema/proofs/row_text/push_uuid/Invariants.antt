use Rattle.std.proofs.Common.{◌≡◌, ◌++◌, drop}
use Rattle.table_schema.specs.RowText.{uuid_from}
use Rattle.table_schema.proofs.row_text.push_uuid.Given as goal

abbrev pub invariant-loop-i : goal.invariant-loop-i
invariant-loop-i l = l.out.items ++ uuid_from l.i (drop l.i l.bytes) ≡ l.initial.out.items ++ uuid_from 0 l.bytes
