-- What the rows that are read of a block mean, and what a line adds to them (heapam.c, heapgetpage).
use Rattle.std.specs.Prelude.{ℕ, Bool, List, ◌++◌, Option, Result}
use Rattle.pg_types.specs.declared.names.Xid.{Xid}
use Rattle.pg_types.specs.declared.status.Status.{Status}
use Rattle.pg_types.specs.declared.status.Unknown.{Unknown}
use Rattle.heap_tuple.specs.declared.cell.Cell.{Cell}
use Rattle.heap_tuple.specs.declared.cell.Column.{Column}
use Rattle.heap_page.specs.Item.{Item, unused, normal, redirect, dead}
use Rattle.standby_snapshot.specs.Snapshot.{SnapshotData}
use Rattle.subtrans.specs.declared.Pair.{Pair}
use Rattle.subtrans.specs.Parents.{topmost_of}
use Rattle.tuple_visibility.specs.Visible.{visible_of}
use Rattle.seq_scan.specs.BlockRows.{BlockEnd, BlockRows, Whole, ToastedAt, BadAt, UnknownAt, NoPage, ends, with_row, with_tuple}
use Rattle.seq_scan.specs.declared.rows.BlockEnd.{BlockEnd as EndRead}
use Rattle.seq_scan.specs.declared.rows.BlockEnd.TheVariants.{Whole as IsWhole, Toasted, Bad, Unknown as NotKnown, NoPage as IsNoPage}
use Rattle.seq_scan.specs.declared.rows.BlockRows.{BlockRows as RowsRead}
use Rattle.seq_scan.specs.declared.line.Found.{Found}
use Rattle.seq_scan.specs.declared.line.Found.TheVariants.{Nothing, Row, End}

-- the end that is meant
abbrev pub block_end : EndRead → BlockEnd
block_end IsWhole = Whole
block_end (Toasted line column) = ToastedAt line column
block_end (Bad line column) = BadAt line column
block_end (NotKnown line id) = UnknownAt line id
block_end IsNoPage = NoPage

-- the rows that are meant, and their end
abbrev pub meaning : RowsRead → BlockRows
meaning block = record { rows = block.rows; end = block_end block.end }

-- whether a snapshot sees a tuple, by these parents of subtransactions, statuses and updaters of multixacts
abbrev pub seen_by : SnapshotData → List Pair → (ℕ → Status) → (ℕ → Option (Option Xid)) → List ℕ → Result Bool Unknown
seen_by snapshot parents statuses updaters tuple = visible_of tuple snapshot (topmost_of parents) statuses updaters

-- what is found at a line, before the others
abbrev pub before : Found → BlockRows → BlockRows
before Nothing rest = rest
before (Row row) rest = with_row row rest
before (End end) rest = ends (block_end end)

-- a line before the others: only one with a tuple may have a row
abbrev pub with_item : List Column → (List ℕ → Result Bool Unknown) → ℕ → Item → BlockRows → BlockRows
with_item columns sees line unused rest = rest
with_item columns sees line (normal tuple) rest = with_tuple columns line tuple (sees tuple) rest
with_item columns sees line (redirect to) rest = rest
with_item columns sees line dead rest = rest

-- the rows that were read, before others
abbrev pub behind : List (List Cell) → BlockRows → BlockRows
behind rows rest = record { rows = rows ++ rest.rows; end = rest.end }
