-- What the blocks of a table give to a scan, where they show the table's versions.
use Rattle.std.specs.Prelude.{◌≡◌, ℕ, ◌<◌, ◌≤◌, ◌==◌, Bool, true, false, List, [], ◌∷◌, All, filter, Option, Some, None, Ok, Result}
use Rattle.pg_types.specs.declared.status.Unknown.{Unknown}
use Rattle.heap_tuple.specs.Values.{row_of}
use Rattle.heap_tuple.specs.declared.cell.Column.{Column}
use Rattle.typed_records.specs.declared.types.Rec.{Rec}
use Rattle.heap_page.specs.Item.{Item, normal, numbered}
use Rattle.page_store.specs.Seen.{Seen, absent, bad_block, seen_page}
use Rattle.seq_scan.specs.BlockRows.{BlockRows, Whole, block_rows, ends, with_values}
use Rattle.row_model.specs.Versions.{Version, version_at}
use Rattle.row_model.specs.Origins.{LogOrigin, committed_in}
use Rattle.multixact.specs.Made.{Made}
use Rattle.row_model.specs.Multixacts.{multixacts}
use Rattle.row_model.specs.Rows.{IsRows, is_row}
use Rattle.row_model.specs.Shows.{Shows}
use Rattle.row_model.specs.Shown.{HasNone, IsSound, ShowsTable, AreApart}

-- the values of rows, one after the other, up to the first that is refused
unfoldable pub rows_of_versions : List Column → List Version → BlockRows
rows_of_versions columns [] = ends Whole
rows_of_versions columns (v ∷ rows) = with_values v.line (row_of v.tuple columns) (rows_of_versions columns rows)

abbrev pub is_in_block : ℕ → Version → Bool
is_in_block block v = v.block == block

-- the version is a row after a log
abbrev pub is_row_in : LogOrigin → List Rec → Version → Bool
is_row_in o log v = is_row (multixacts log) (committed_in o log) v

-- whether a tuple is seen is whether its version is a row
abbrev pub SeesThem : LogOrigin → List Rec → (List ℕ → Result Bool Unknown) → Type 0
SeesThem o log sees =
    (v : Version) (tuple : List ℕ) → Shows o log v tuple → IsSound o log v → sees tuple ≡ Ok (is_row_in o log v)

-- what a scan gives of each block is the values of the table's rows there
pub record AreScanned (columns : List Column) (sees : List ℕ → Result Bool Unknown) (count : ℕ) (blocks : ℕ → Seen) (rows : List Version) : Type 0 where
  pub each : (block : ℕ) → block < count → block_rows columns sees (blocks block) ≡ rows_of_versions columns (filter (is_in_block block) rows)

-- where the blocks show the versions and the snapshot sees the rows, a scan gives the rows, block by block
abbrev pub ScanGivesRows : Type 0
ScanGivesRows =
    (o : LogOrigin) (log : List Rec) (vs : List Version) (count : ℕ) (blocks : ℕ → Seen)
    (columns : List Column) (sees : List ℕ → Result Bool Unknown)
    → ShowsTable o log vs count blocks → SeesThem o log sees
    → (rows : List Version) × IsRows (multixacts log) (committed_in o log) vs rows × AreScanned columns sees count blocks rows

-- a scan reads nothing at a line: no tuple there is seen
abbrev pub ReadsNothing : (List ℕ → Result Bool Unknown) → Item → Type 0
ReadsNothing sees item = (tuple : List ℕ) → item ≡ normal tuple → sees tuple ≡ Ok false

-- it reads a version there: a tuple that is seen and has its row
abbrev pub ReadsVersion : List Column → (List ℕ → Result Bool Unknown) → Version → Item → Type 0
ReadsVersion columns sees v item =
    (tuple : List ℕ) × (item ≡ normal tuple) × (sees tuple ≡ Ok true) × (row_of tuple columns ≡ row_of v.tuple columns)

-- it reads the version exactly where that passes a test
abbrev pub ReadsTested : List Column → (List ℕ → Result Bool Unknown) → Bool → Version → Item → Type 0
ReadsTested columns sees true v item = ReadsVersion columns sees v item
ReadsTested columns sees false v item = ReadsNothing sees item

-- what it reads at the line of a place: the version that stands there, where that passes a test, and else nothing; so
-- there a version that does not pass may have given its place to another that is not seen
abbrev pub ReadsPlace : List Column → (List ℕ → Result Bool Unknown) → (Version → Bool) → Option Version → Item → Type 0
ReadsPlace columns sees test None item = ReadsNothing sees item
ReadsPlace columns sees test (Some v) item = ReadsTested columns sees (test v) v item

-- a block is a page, of which it reads the versions of these places
abbrev pub ReadsSeen : List Column → (List ℕ → Result Bool Unknown) → (Version → Bool) → List Version → ℕ → Seen → Type 0
ReadsSeen columns sees test vs block absent = ⊥
ReadsSeen columns sees test vs block bad_block = ⊥
ReadsSeen columns sees test vs block (seen_page lsn items) =
    (line : ℕ) → ReadsPlace columns sees test (version_at block line vs) (numbered items line)

-- it reads the versions that stand below so many blocks: none stands in another, no two at one place, and one that lost
-- its place does not pass
pub record ReadsTable (columns : List Column) (sees : List ℕ → Result Bool Unknown) (test : Version → Bool) (vs : List Version) (count : ℕ) (blocks : ℕ → Seen) : Type 0 where
  pub each : (block : ℕ) → block < count → ReadsSeen columns sees test vs block (blocks block)
  pub past : (block : ℕ) → count ≤ block → HasNone vs block
  pub apart : AreApart vs
  pub lost : All (λ (v : Version). v.holds ≡ false → test v ≡ false) vs

-- a scan of blocks in which it reads some versions gives the rows among them, block by block
abbrev pub ScanGivesRead : Type 0
ScanGivesRead =
    (columns : List Column) (sees : List ℕ → Result Bool Unknown) (made : Made) (committed : ℕ → Bool) (vs : List Version)
    (count : ℕ) (blocks : ℕ → Seen) → ReadsTable columns sees (is_row made committed) vs count blocks
    → (rows : List Version) × IsRows made committed vs rows × AreScanned columns sees count blocks rows
