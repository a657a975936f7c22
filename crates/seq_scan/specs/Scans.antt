-- A scan that is open: what it gives next, and how it goes on (heapam.c, heap_getnextslot; a page a call).
use Rattle.std.specs.Prelude.{ℕ, ◌+◌, Bool, List, nat_lt, Result, if◌then◌else◌}
use Rattle.pg_types.specs.declared.names.Lsn.{Lsn}
use Rattle.pg_types.specs.declared.status.Unknown.{Unknown}
use Rattle.heap_tuple.specs.declared.cell.Column.{Column}
use Rattle.page_store.specs.Seen.{Seen}
use Rattle.standby_snapshot.specs.Snapshot.{SnapshotData}
use Rattle.seq_scan.specs.BlockRows.{BlockEnd, BlockRows, Whole, ToastedAt, BadAt, UnknownAt, NoPage, block_rows, ends}
use Rattle.seq_scan.specs.declared.scan.Damage.TheVariants.{Multi, Page as NoSuchPage}
use Rattle.seq_scan.specs.declared.scan.PageEnd.{PageEnd}
use Rattle.seq_scan.specs.declared.scan.PageEnd.TheVariants as page

-- a scan: of which table, by its number; how many blocks that had at the opening, where the log stood then, and the
-- snapshot that was taken; and how many blocks were given
pub record OpenScan : Type 0 where
  pub table : ℕ
  pub blocks : ℕ
  pub at : Lsn
  pub snapshot : SnapshotData
  pub given : ℕ

-- a block is still to be given: none ever is of a table that had no blocks
abbrev pub has_next : OpenScan → Bool
has_next scan = nat_lt scan.given scan.blocks

-- and another one behind it
abbrev pub has_more : OpenScan → Bool
has_more scan = nat_lt (scan.given + 1) scan.blocks

-- the rows that come next: those of the next block, if there is one
abbrev pub page_of : List Column → (List ℕ → Result Bool Unknown) → (ℕ → Seen) → OpenScan → BlockRows
page_of columns sees blocks scan = if has_next scan then block_rows columns sees (blocks scan.given) else ends Whole

-- the scan once they were given
abbrev pub after_page : OpenScan → OpenScan
after_page scan = if has_next scan then record scan { given = scan.given + 1 } else scan

-- how the rows of this block end, and whether there are more
abbrev pub end_at : ℕ → Bool → BlockEnd → PageEnd
end_at block more Whole = page.Rows more
end_at block more (ToastedAt line column) = page.Toasted (record { block = block; line = line }) column
end_at block more (BadAt line column) = page.BadRow (record { block = block; line = line }) column
end_at block more (UnknownAt line id) = page.Damaged (record { block = block; line = line }) (Multi id)
end_at block more NoPage = page.Damaged (record { block = block; line = 0 }) NoSuchPage

-- how the rows end that come next
abbrev pub end_of_page : OpenScan → BlockRows → PageEnd
end_of_page scan rows = end_at scan.given (has_more scan) rows.end
