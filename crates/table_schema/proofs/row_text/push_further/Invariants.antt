use Rattle.std.proofs.Common.{◌≡◌, ◌++◌, drop}
use Rattle.table_schema.specs.RowText.{further_text}
use Rattle.table_schema.proofs.row_text.push_further.Given as goal

abbrev pub invariant-loop-i : goal.invariant-loop-i
invariant-loop-i l = l.out.items ++ further_text (drop l.i l.columns) (drop l.i l.cells) ≡ l.initial.out.items ++ further_text l.columns l.cells
