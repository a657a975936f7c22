-- Where blocks show the versions of a table and the snapshot sees the rows, a scan reads the versions there.
use Rattle.std.proofs.Common.{◌≡◌, ℕ, ◌<◌, ◌≤◌, Bool, List, Result, Option, Some, None, arith, refl, ap}
use Rattle.std.proofs.lemmas.Bool.{both_ways}
use Rattle.pg_types.specs.declared.status.Unknown.{Unknown}
use Rattle.heap_tuple.specs.Tuple.{hoff_of}
use Rattle.heap_tuple.specs.declared.cell.Column.{Column}
use Rattle.heap_page.specs.Item.{Item, is_normal, numbered}
use Rattle.page_store.specs.Seen.{Seen, absent, bad_block, seen_page}
use Rattle.typed_records.specs.declared.types.Rec.{Rec}
use Rattle.row_model.specs.Origins.{LogOrigin, committed_in}
use Rattle.row_model.specs.Versions.{Version, version_at}
use Rattle.row_model.specs.Multixacts.{multixacts}
use Rattle.row_model.specs.Shows.{ShowsPlace}
use Rattle.row_model.specs.Shown.{IsSound, ShowsSeen, ShowsTable}
use Rattle.row_pages.specs.Pages.{ReadsPlace, ReadsSeen, ReadsTable, ScanGivesRows, SeesThem, is_row_in}
use Rattle.row_pages.proofs.Reading.{tested}
use Rattle.row_pages.proofs.SameRow.{row_same}
use Rattle.row_pages.proofs.Rows.{scan_gives_read_holds}
use Rattle.row_model.proofs.Shown.{none_there}

module _ (origin : LogOrigin) (log : List Rec) (vs : List Version) (count : ℕ) (blocks : ℕ → Seen) (columns : List Column)
    (sees : List ℕ → Result Bool Unknown) (table : ShowsTable origin log vs count blocks) (seen : SeesThem origin log sees) where
  place_read :
      (o : Option Version) (item : Item) → ShowsPlace origin log o item
      → ((v : Version) → o ≡ Some v → IsSound origin log v × (23 ≤ hoff_of v.tuple))
      → ReadsPlace columns sees (is_row_in origin log) o item
  place_read None item shows known = λ tuple is. absurd (both_ways (is_normal item) shows (ap is_normal is))
  place_read (Some v) item (tuple, is, shown) known =
      let (sound, behind) = known v refl in
      tested columns sees (is_row_in origin log v) v item tuple is (seen v tuple shown sound)
      (row_same tuple v.tuple columns shown.row behind)

  seen_read :
      (block : ℕ) (page : Seen) → block < count → ShowsSeen origin log vs count block page
      → ReadsSeen columns sees (is_row_in origin log) vs block page
  seen_read block absent below (past, none) = absurd (omega arith)
  seen_read block bad_block below shows = absurd shows
  seen_read block (seen_page lsn items) below (before, shows) =
      λ line.
      place_read (version_at block line vs) (numbered items line) (shows line)
      (λ v e. (table.sound block line v e, table.behind_header block line v e))

  table_read : ReadsTable columns sees (is_row_in origin log) vs count blocks
  table_read =
      record {
        each = λ block below. seen_read block (blocks block) below (table.shows block);
        past = λ block past. none_there origin log vs count block (blocks block) past (table.shows block);
        apart = table.apart;
        lost = table.lost;
      }

pub scan_gives_rows_holds : ScanGivesRows
scan_gives_rows_holds origin log vs count blocks columns sees table all =
    scan_gives_read_holds columns sees (multixacts log) (committed_in origin log) vs count blocks
    (table_read origin log vs count blocks columns sees table all)
