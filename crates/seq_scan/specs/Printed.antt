-- The rows of a block, printed a line each.
use Rattle.std.specs.Prelude.{ℕ, List, [], ◌∷◌, ◌++◌, Option, None, Some}
use Rattle.std.specs.List.{flat_map}
use Rattle.heap_tuple.specs.declared.cell.Cell.{Cell}
use Rattle.heap_tuple.specs.declared.cell.Column.{Column}
use Rattle.table_schema.specs.RowText.{row_text}
use Rattle.seq_scan.specs.BlockRows.{BlockEnd, BlockRows}
use Rattle.seq_scan.specs.declared.rows.BlockEnd.{BlockEnd as EndRead}
use Rattle.seq_scan.specs.Meaning.{block_end}

-- a row's line: what each line begins with, the row's values, and a newline
abbrev pub row_line : List ℕ → List Column → List Cell → List ℕ
row_line head columns row = head ++ row_text columns row ++ 10 ∷ []

-- what stands behind a text once the rows of a block were printed, and how they end
abbrev pub printed_rows : List ℕ → List Column → List ℕ → BlockRows → List ℕ × BlockEnd
printed_rows head columns text block = (text ++ flat_map (row_line head columns) block.rows, block.end)

-- what a line has printed, before the others are
abbrev pub printed_before : List ℕ → List Column → List ℕ → Option EndRead → BlockRows → List ℕ × BlockEnd
printed_before head columns text None rest = printed_rows head columns text rest
printed_before head columns text (Some end) rest = (text, block_end end)
