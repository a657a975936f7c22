-- The pages of a scan put together are the values of its rows.
use Rattle.std.proofs.Common.{◌≡◌, ℕ, ◌+◌, ◌≤◌, Bool, true, false, ◌&&◌, List, [], ◌∷◌, ◌++◌, Option, Result, Ok, Err, arith, refl, sym, ap, ◌∙◌, if◌then◌else◌}
use Rattle.std.specs.List.{filter}
use Rattle.std.proofs.lemmas.Bool.{ltb-false}
use Rattle.std.proofs.lemmas.List.{append-nil}
use Rattle.pg_types.specs.declared.names.Locator.{Locator}
use Rattle.heap_tuple.specs.Values.{RowRefusal, ToastedIn, BadIn, row_of}
use Rattle.heap_tuple.specs.declared.cell.Cell.{Cell}
use Rattle.heap_tuple.specs.declared.cell.Column.{Column}
use Rattle.typed_records.specs.declared.types.Rec.{Rec}
use Rattle.page_store.specs.Seen.{Seen}
use Rattle.recovery_conflict.specs.declared.locks.Cause.{Cause}
use Rattle.seq_scan.specs.BlockRows.{BlockEnd, BlockRows, Whole, ToastedAt, BadAt, UnknownAt, NoPage, ends, with_row, with_values}
use Rattle.row_model.specs.Versions.{Version}
use Rattle.row_model.specs.RowSteps.{block_count, versions}
use Rattle.row_model.specs.Rows.{IsRows, OneRows, is_row}
use Rattle.row_model.specs.Origins.{committed_in}
use Rattle.row_model.specs.Multixacts.{multixacts}
use Rattle.row_model.specs.Shown.{ShowsTable}
use Rattle.row_pages.specs.Pages.{is_in_block, rows_of_versions}
use Rattle.row_redo.specs.Shown.{BlocksShowVersions}
use Rattle.record_numbers.specs.Laws.{ToldNumbersFit}
use Rattle.standby_model.specs.Laws.{LogRises}
use Rattle.table_schema.specs.Tables.{columns_of, file_of}
use Rattle.standby_core.specs.Scans.{is_whole}
use Rattle.legal_session.specs.AbstractStandby.{AbstractScan, GivesRows, World, log_origin}
use Rattle.legal_session.specs.WholeScans.{FollowIf, GivesPages, PagesAreRows, joined, joined_with}
use Rattle.legal_session.proofs.Facts.{IsGood, LogLaws, legal_log, table_shown}
use Rattle.legal_session.proofs.Placed.{all_from, is_from, none_among, none_past, split_rows}
use Rattle.row_model.proofs.Shown.{none_there}

-- a row before pages that are put together
row_before :
    (row : List Cell) (page rest : BlockRows) (t : Bool) → is_whole page.end ≡ t
    → with_row row (joined_with page rest) ≡ joined_with (with_row row page) rest
row_before row page rest t e =
    ap (λ (b : Bool). with_row row (if b then record { rows = page.rows ++ rest.rows; end = rest.end } else page)) e
    ∙ by t
    ∙ sym (ap (λ (b : Bool). if b then record { rows = row ∷ (page.rows ++ rest.rows); end = rest.end } else with_row row page) e)
  where
    by :
        (b : Bool)
        → with_row row (if b then record { rows = page.rows ++ rest.rows; end = rest.end } else page)
        ≡ (if b then record { rows = row ∷ (page.rows ++ rest.rows); end = rest.end } else with_row row page)
    by true = refl
    by false = refl

values_before :
    (line : ℕ) (values : Result (List Cell) RowRefusal) (page rest : BlockRows)
    → with_values line values (joined_with page rest) ≡ joined_with (with_values line values page) rest
values_before line (Ok row) page rest = row_before row page rest (is_whole page.end) refl
values_before line (Err (ToastedIn column)) page rest = refl
values_before line (Err (BadIn column)) page rest = refl

rows_append :
    (columns : List Column) (vs us : List Version)
    → rows_of_versions columns (vs ++ us) ≡ joined_with (rows_of_versions columns vs) (rows_of_versions columns us)
unfolding rows_of_versions
rows_append columns [] us = refl
rows_append columns (v ∷ vs) us =
    ap (λ (rest : BlockRows). with_values v.line (row_of v.tuple columns) rest) (rows_append columns vs us)
    ∙ values_before v.line (row_of v.tuple columns) (rows_of_versions columns vs) (rows_of_versions columns us)

-- the last page
last_page : (rows : List (List Cell)) (end : BlockEnd) → joined_with (record { rows = rows; end = end }) (ends Whole) ≡ record { rows = rows; end = end }
last_page rows Whole = ap (λ (all : List (List Cell)). record { rows = all; end = Whole }) (append-nil rows)
last_page rows (ToastedAt line column) = refl
last_page rows (BadAt line column) = refl
last_page rows (UnknownAt line id) = refl
last_page rows NoPage = refl

-- one whose rows end before its last line
cut_page : (page rest : BlockRows) → is_whole page.end ≡ false → joined_with page rest ≡ page
cut_page page rest e = ap (λ (b : Bool). if b then record { rows = page.rows ++ rest.rows; end = rest.end } else page) e

no_more : (columns : List Column) → rows_of_versions columns [] ≡ ends Whole
unfolding rows_of_versions
no_more columns = refl

module _
    (one_rows : OneRows) (w : World) (table : ℕ) (opened : List Rec) (blocks : ℕ → Seen)
    (shows : ShowsTable (log_origin w) opened (versions (log_origin w) (file_of w.tables table) opened)
    (block_count (log_origin w) (file_of w.tables table) opened) blocks) (rows : List Version)
    (are : IsRows (multixacts opened) (committed_in (log_origin w) opened) (versions (log_origin w) (file_of w.tables table) opened) rows)
    (id xmin : ℕ) (cause : Option Cause) where
  abbrev columns : List Column
  columns = columns_of w.tables table

  abbrev file : Locator
  file = file_of w.tables table

  abbrev count : ℕ
  count = block_count (log_origin w) file opened

  abbrev at_block : ℕ → AbstractScan
  at_block block = record { id = id; table = table; opened = opened; xmin = xmin; given = block; cause = cause }

  none_behind : (block : ℕ) → count ≤ block → filter (is_from block) rows ≡ []
  none_behind block past =
      let o = log_origin w in
      let test = is_row (multixacts opened) (committed_in o opened) in
      let vs = versions o file opened in
      none_among (is_from block) (filter test vs) rows are.same
      (none_past test count block past vs (λ b further. none_there o opened vs count b (blocks b) further (shows.shows b)) shows.lost)

  page_is :
      (block : ℕ) (page : BlockRows) (more : Bool) → GivesRows w (at_block block) page more
      → page ≡ rows_of_versions columns (filter (is_in_block block) rows)
  page_is block page more gives =
      gives.gives
      ∙ ap (λ (us : List Version). rows_of_versions columns (filter (is_in_block block) us))
      (one_rows (multixacts opened) (committed_in (log_origin w) opened) (versions (log_origin w) file opened) gives.rows rows gives.are_rows are)

  -- the rows of a block before those behind it
  rows_from :
      (block : ℕ) (page : BlockRows) → page ≡ rows_of_versions columns (filter (is_in_block block) rows)
      → joined_with page (rows_of_versions columns (filter (is_from (block + 1)) rows)) ≡ rows_of_versions columns (filter (is_from block) rows)
  rows_from block page e =
      ap (λ (p : BlockRows). joined_with p (rows_of_versions columns (filter (is_from (block + 1)) rows))) e
      ∙ sym (rows_append columns (filter (is_in_block block) rows) (filter (is_from (block + 1)) rows))
      ∙ sym (ap (rows_of_versions columns) (split_rows block rows are.in_order))

  pages_from :
      (block : ℕ) (page : BlockRows) (pages : List BlockRows) (more whole : Bool) → GivesRows w (at_block block) page more
      → is_whole page.end ≡ whole → FollowIf (more && whole) (GivesPages w (at_block (block + 1)) pages) pages
      → (GivesPages w (at_block (block + 1)) pages → joined pages ≡ rows_of_versions columns (filter (is_from (block + 1)) rows))
      → joined (page ∷ pages) ≡ rows_of_versions columns (filter (is_from block) rows)
  pages_from block page pages true true gives e follow later =
      ap (joined_with page) (later follow) ∙ rows_from block page (page_is block page true gives)
  pages_from block page pages true false gives e none later =
      cut_page page (joined pages) e
      ∙ sym (cut_page page (rows_of_versions columns (filter (is_from (block + 1)) rows)) e)
      ∙ rows_from block page (page_is block page true gives)
  pages_from block page pages false whole gives e none later =
      let past = ltb-false (block + 1) count (sym gives.further) in
      ap (λ (others : List BlockRows). joined_with page (joined others)) none
      ∙ ap (joined_with page)
      (sym (ap (rows_of_versions columns) (none_behind (block + 1) (omega (arith, past))) ∙ no_more columns))
      ∙ rows_from block page (page_is block page false gives)

  pub whole_from :
      (block : ℕ) (pages : List BlockRows) → GivesPages w (at_block block) pages
      → joined pages ≡ rows_of_versions columns (filter (is_from block) rows)
  whole_from block [] gives = absurd gives
  whole_from block (page ∷ pages) (more, gives, follow) =
      pages_from block page pages more (is_whole page.end) gives refl follow (λ later. whole_from (block + 1) pages later)

-- the rows of the first page are all
first_rows :
    (w : World) (scan : AbstractScan) (pages : List BlockRows) → GivesPages w scan pages
    → (rows : List Version)
    × IsRows (multixacts scan.opened) (committed_in (log_origin w) scan.opened)
    (versions (log_origin w) (file_of w.tables scan.table) scan.opened) rows
first_rows w scan [] gives = absurd gives
first_rows w scan (page ∷ pages) (more, gives, follow) = (gives.rows, gives.are_rows)

pub pages_are_rows_hold : LogRises → ToldNumbersFit → BlocksShowVersions → OneRows → PagesAreRows
pages_are_rows_hold all_rise fits shown one_rows w start sized tells legal scan pages stands described there first gives =
    let laws : LogLaws = record { all_rise = all_rise; fits = fits; shown = shown } in
    let good : IsGood w start = record { sized = sized; tells = tells; legal = legal } in
    let rules = legal_log laws w start good scan.opened stands in
    let shows = table_shown laws w start good scan.opened stands rules.view scan.table rules.redone described there in
    let (rows, are) = first_rows w scan pages gives in (
      rows,
      are,
      whole_from one_rows w scan.table scan.opened (rules.view scan.table) shows rows are scan.id scan.xmin scan.cause scan.given pages gives
          ∙ ap (λ (given : ℕ). rows_of_versions (columns_of w.tables scan.table) (filter (is_from given) rows)) first
          ∙ ap (rows_of_versions (columns_of w.tables scan.table)) (all_from rows),
    )
