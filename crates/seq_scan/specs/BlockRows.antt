-- What a sequential scan gives of a block: the rows of the tuples that the snapshot sees, in the order of their lines
-- (heapam.c, heapgetpage; heaptuple.c, heap_deform_tuple).
use Rattle.std.specs.Prelude.{ℕ, ◌+◌, Bool, true, false, List, [], ◌∷◌, Result, Ok, Err}
use Rattle.pg_types.specs.declared.status.Unknown.{Unknown}
use Rattle.heap_page.specs.Item.{Item, unused, normal, redirect, dead}
use Rattle.heap_tuple.specs.Values.{RowRefusal, ToastedIn, BadIn, row_of}
use Rattle.heap_tuple.specs.declared.cell.Cell.{Cell}
use Rattle.heap_tuple.specs.declared.cell.Column.{Column}
use Rattle.page_store.specs.Seen.{Seen, absent, bad_block, seen_page}

-- how a block's rows end: with its last line; before a line whose row is stored elsewhere or compressed, or is not as
-- described, at this column; before a line that shows a multixact that is not known; or there is no such page
pub data BlockEnd : Type 0 where
  Whole : BlockEnd
  ToastedAt : (line column : ℕ) → BlockEnd
  BadAt : (line column : ℕ) → BlockEnd
  UnknownAt : (line id : ℕ) → BlockEnd
  NoPage : BlockEnd

-- the rows of a block, in the order of their lines, and how they end
pub record BlockRows : Type 0 where
  pub rows : List (List Cell)
  pub end : BlockEnd

-- no row, and this end
abbrev pub ends : BlockEnd → BlockRows
ends end = record { rows = []; end = end }

-- a row before others
abbrev pub with_row : List Cell → BlockRows → BlockRows
with_row row rest = record { rows = row ∷ rest.rows; end = rest.end }

-- the row of a line that is seen, before the others; a row that is refused ends them
abbrev pub with_values : ℕ → Result (List Cell) RowRefusal → BlockRows → BlockRows
with_values line (Ok row) rest = with_row row rest
with_values line (Err (ToastedIn column)) rest = ends (ToastedAt line column)
with_values line (Err (BadIn column)) rest = ends (BadAt line column)

-- a tuple before the others, where the snapshot sees it
abbrev pub with_tuple : List Column → ℕ → List ℕ → Result Bool Unknown → BlockRows → BlockRows
with_tuple columns line tuple (Ok false) rest = rest
with_tuple columns line tuple (Ok true) rest = with_values line (row_of tuple columns) rest
with_tuple columns line tuple (Err unknown) rest = ends (UnknownAt line unknown.id)

-- the rows of the lines from this one on; `sees` tells whether the snapshot sees a tuple
unfoldable pub rows_from : List Column → (List ℕ → Result Bool Unknown) → ℕ → List Item → BlockRows
rows_from columns sees line [] = ends Whole
rows_from columns sees line (unused ∷ items) = rows_from columns sees (line + 1) items
rows_from columns sees line (normal tuple ∷ items) =
    with_tuple columns line tuple (sees tuple) (rows_from columns sees (line + 1) items)
rows_from columns sees line (redirect to ∷ items) = rows_from columns sees (line + 1) items
rows_from columns sees line (dead ∷ items) = rows_from columns sees (line + 1) items

-- the rows of a block
unfoldable pub block_rows : List Column → (List ℕ → Result Bool Unknown) → Seen → BlockRows
block_rows columns sees absent = ends NoPage
block_rows columns sees bad_block = ends NoPage
block_rows columns sees (seen_page lsn items) = rows_from columns sees 1 items
