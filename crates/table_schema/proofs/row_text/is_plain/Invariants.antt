use Rattle.std.proofs.Common.{◌≡◌, true, take}
use Rattle.std.specs.List.{flat_map}
use Rattle.table_schema.specs.RowText.{escaped_byte}
use Rattle.table_schema.proofs.row_text.is_plain.Given as goal

abbrev pub invariant-loop-byte : goal.invariant-loop-byte
invariant-loop-byte l = l.plain ≡ true → flat_map escaped_byte (take l.byte-index l.bytes) ≡ take l.byte-index l.bytes
