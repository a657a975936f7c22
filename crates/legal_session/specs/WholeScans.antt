-- The pages of a scan, one after the other, are the rows of its table.
use Rattle.std.specs.Prelude.{◌≡◌, ℕ, ◌+◌, ◌<◌, Bool, true, false, ◌&&◌, List, [], ◌∷◌, ◌++◌, Some, if◌then◌else◌}
use Rattle.heap_redo.specs.Redone.{table_of}
use Rattle.record_numbers.specs.Bytes.{TellsBytes}
use Rattle.table_schema.specs.Description.{locators}
use Rattle.table_schema.specs.Tables.{columns_of, file_of}
use Rattle.seq_scan.specs.BlockRows.{BlockRows, Whole, ends}
use Rattle.row_model.specs.Versions.{Version}
use Rattle.row_model.specs.Locks.{is_gone}
use Rattle.row_model.specs.RowSteps.{versions}
use Rattle.row_model.specs.Rows.{IsRows}
use Rattle.row_model.specs.Origins.{committed_in}
use Rattle.row_model.specs.Multixacts.{multixacts}
use Rattle.row_pages.specs.Pages.{rows_of_versions}
use Rattle.standby_model.specs.Log.{Stands}
use Rattle.standby_core.specs.Scans.{is_whole}
use Rattle.standby_core.specs.Standby.{described_in}
use Rattle.legal_session.specs.AbstractStandby.{AbstractScan, GivesRows, IsLegal, World, log_origin}

-- others follow where the scan goes on, and none where it does not
abbrev pub FollowIf : Bool → Type 0 → List BlockRows → Type 0
FollowIf true Others pages = Others
FollowIf false Others pages = pages ≡ []

-- the pages that a scan is given from its next block on until it ends
abbrev pub GivesPages : World → AbstractScan → List BlockRows → Type 0
GivesPages w scan [] = ⊥
GivesPages w scan (page ∷ pages) =
    (more : Bool) × GivesRows w scan page more
    × FollowIf (more && is_whole page.end) (GivesPages w (record scan { given = scan.given + 1 }) pages) pages

-- a page before others: where a row of it is refused the rows end there
abbrev pub joined_with : BlockRows → BlockRows → BlockRows
joined_with page rest = if is_whole page.end then record { rows = page.rows ++ rest.rows; end = rest.end } else page

-- pages put together
abbrev pub joined : List BlockRows → BlockRows
joined [] = ends Whole
joined (page ∷ pages) = joined_with page (joined pages)

-- over a legal log the pages of a scan from its first block on, put together, are the values of the rows that were committed
-- at the opening, in order of place, up to the first that is refused; the table was not dropped then
abbrev pub PagesAreRows : Type 0
PagesAreRows =
    (w : World) (start : ℕ) → 0 < w.told.segsize → TellsBytes w.told → IsLegal w start
    → (scan : AbstractScan) (pages : List BlockRows) → Stands w.told (described_in w.tables) start scan.opened
    → table_of (locators w.tables) (file_of w.tables scan.table) ≡ Some scan.table
    → is_gone (file_of w.tables scan.table) scan.opened ≡ false → scan.given ≡ 0 → GivesPages w scan pages
    → (rows : List Version)
    × IsRows (multixacts scan.opened) (committed_in (log_origin w) scan.opened)
    (versions (log_origin w) (file_of w.tables scan.table) scan.opened) rows
    × (joined pages ≡ rows_of_versions (columns_of w.tables scan.table) rows)
