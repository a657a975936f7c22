-- A scan reads, after further records, the versions that stood as it was opened.
use Rattle.std.proofs.Common.{◌≡◌, ℕ, ◌<◌, ◌≤◌, Bool, true, false, not, List, [], ◌∷◌, ◌++◌, All, Result, Ok, Option, Some, None, arith, refl, sym, ap, ◌∙◌, subst, inl, inr}
use Rattle.std.proofs.lemmas.Bool.{and_left, both_ways}
use Rattle.std.proofs.lemmas.List.Elements.{All-tail}
use Rattle.pg_types.specs.declared.names.Locator.{Locator}
use Rattle.pg_types.specs.declared.status.Unknown.{Unknown}
use Rattle.heap_tuple.specs.Tuple.{hoff_of}
use Rattle.heap_tuple.specs.Values.{row_of}
use Rattle.heap_tuple.specs.declared.cell.Column.{Column}
use Rattle.heap_page.specs.Item.{Item, is_normal, numbered}
use Rattle.page_store.specs.Seen.{Seen, absent, bad_block, seen_page}
use Rattle.wal_bodies.specs.Ends.{Rises}
use Rattle.typed_records.specs.declared.types.Rec.{Rec}
use Rattle.record_numbers.specs.Fits.{RecordFits}
use Rattle.standby_snapshot.specs.Snapshot.{take_of}
use Rattle.xact_redo.specs.Sees.{sees_by}
use Rattle.row_model.specs.Versions.{Version, version_at}
use Rattle.row_model.specs.Origins.{LogOrigin, committed_in}
use Rattle.row_model.specs.Multixacts.{multixacts}
use Rattle.row_model.specs.RowSteps.{block_count, versions}
use Rattle.row_model.specs.Rows.{counts, is_deleted, is_row}
use Rattle.row_model.specs.Shows.{Shows, ShowsPlace}
use Rattle.row_model.specs.Shown.{IsSound, ShowsSeen, ShowsTable}
use Rattle.row_model.specs.LegalRows.{LegalLog}
use Rattle.row_model.specs.Prefixes.{PrefixIsLegal}
use Rattle.row_model.specs.Stays.{AlwaysStay}
use Rattle.row_redo.specs.Shown.{BlocksShowVersions}
use Rattle.row_redo.proofs.Tables.{legal_rows}
use Rattle.row_visibility.specs.Sees.{SeesOpened}
use Rattle.row_pages.specs.Pages.{ReadsNothing, ReadsPlace, ReadsSeen, ReadsTable, ReadsTested, ScanGivesRead}
use Rattle.row_pages.proofs.Reading.{not_seen, tested}
use Rattle.row_pages.proofs.SameRow.{row_same}
use Rattle.kept_rows.specs.Kept.{KeepsRows}
use Rattle.kept_rows.proofs.Along.{carried_along, count_along, still_there}
use Rattle.kept_rows.proofs.Carried.{AreCarried, CarriedAt, IsKept, IsNew, kept_row}
use Rattle.row_model.proofs.Shown.{none_there}

-- the log at the opening is legal
legal_then : PrefixIsLegal → (o : LogOrigin) (known : List Locator) (later opened : List Rec) → LegalLog o known (later ++ opened) → LegalLog o known opened
legal_then prefix o known [] opened legal = legal
legal_then prefix o known (rec ∷ later) opened legal = legal_then prefix o known later opened (prefix o known rec (later ++ opened) legal)

-- its records follow each other, and fit
rises_then : (later opened : List Rec) → Rises 0 (later ++ opened) → Rises 0 opened
rises_then [] opened rises = rises
rises_then (rec ∷ later) opened (less, rises) = rises_then later opened rises

fits_then : (later opened : List Rec) → All RecordFits (later ++ opened) → All RecordFits opened
fits_then [] opened fits = fits
fits_then (rec ∷ later) opened fits = fits_then later opened (All-tail RecordFits rec (later ++ opened) fits)

-- what a scan reads at a line, by what stands there and what stood
module _ (o : LogOrigin) (later opened : List Rec) (columns : List Column) (sees : List ℕ → Result Bool Unknown)
    (seen : (v : Version) (tuple : List ℕ) → Shows o (later ++ opened) v tuple → IsSound o (later ++ opened) v
    → (v.frozen ≡ true → counts (committed_in o opened) v.inserter ≡ true)
    → sees tuple ≡ Ok (is_row (multixacts (later ++ opened)) (committed_in o opened) v)) where
  abbrev was : ℕ → Bool
  was x = committed_in o opened x

  abbrev was_row : Version → Bool
  was_row v = is_row (multixacts opened) was v

  abbrev is_row_now : Version → Bool
  is_row_now v = is_row (multixacts (later ++ opened)) was v

  -- a line without a tuple gives nothing
  empty_read : (item : Item) → is_normal item ≡ false → ReadsNothing sees item
  empty_read item none tuple is = absurd (both_ways (is_normal item) none (ap is_normal is))

  -- nor does one of which a version was born since: that is no row
  new_unseen : (v : Version) → IsNew was v → is_row_now v ≡ false
  new_unseen v new = and_left (counts was v.inserter) (not (is_deleted (multixacts (later ++ opened)) was v.deleter)) new.uncounted

  new_frozen : (v : Version) → IsNew was v → v.frozen ≡ true → counts was v.inserter ≡ true
  new_frozen v new h = absurd (both_ways v.frozen new.thawed h)

  new_read :
      (v : Version) (item : Item) → IsNew was v → ShowsPlace o (later ++ opened) (Some v) item → IsSound o (later ++ opened) v
      → ReadsNothing sees item
  new_read v item new (tuple, is, shown) sound =
      not_seen columns sees item tuple is (seen v tuple shown sound (new_frozen v new) ∙ ap Ok (new_unseen v new))

  -- one that was no row is not missed
  no_row_read : (old : Version) (item : Item) → was_row old ≡ false → ReadsNothing sees item → ReadsTested columns sees (was_row old) old item
  no_row_read old item none reads = subst (λ (t : Bool). ReadsTested columns sees t old item) (sym none) reads

  -- one that stood is read exactly where it was a row
  kept_read :
      (old v : Version) (item : Item) → IsKept (later ++ opened) opened was old v → ShowsPlace o (later ++ opened) (Some v) item
      → IsSound o (later ++ opened) v × (23 ≤ hoff_of v.tuple) → ReadsTested columns sees (was_row old) old item
  kept_read old v item kept (tuple, is, shown) (sound, behind) =
      tested columns sees (was_row old) old item tuple is
      (seen v tuple shown sound kept.frozen ∙ ap Ok (kept_row (later ++ opened) opened was old v kept))
      (row_same tuple v.tuple columns shown.row behind ∙ ap (λ (t : List ℕ). row_of t columns) kept.tuple)

  place_read :
      (old place : Option Version) (item : Item) → CarriedAt (later ++ opened) opened was old place → ShowsPlace o (later ++ opened) place item
      → ((v : Version) → place ≡ Some v → IsSound o (later ++ opened) v × (23 ≤ hoff_of v.tuple))
      → ReadsPlace columns sees was_row old item
  place_read None None item none shows known = empty_read item shows
  place_read (Some old) None item none shows known = no_row_read old item none (empty_read item shows)
  place_read None (Some v) item new shows known = new_read v item new shows (known v refl).0
  place_read (Some old) (Some v) item (inl kept) shows known = kept_read old v item kept shows (known v refl)
  place_read (Some old) (Some v) item (inr (none, new)) shows known =
      no_row_read old item none (new_read v item new shows (known v refl).0)

  module _ (old vs : List Version) (first count : ℕ) (before blocks : ℕ → Seen) (grows : first ≤ count)
      (carried : AreCarried (later ++ opened) opened was old vs) (then_shown : ShowsTable o opened old first before)
      (table : ShowsTable o (later ++ opened) vs count blocks) where
    seen_read :
        (block : ℕ) (page : Seen) → block < first → ShowsSeen o (later ++ opened) vs count block page
        → ReadsSeen columns sees was_row old block page
    seen_read block absent below (past, none) = absurd (omega arith)
    seen_read block bad_block below shows = absurd shows
    seen_read block (seen_page lsn items) below (within, shows) =
        λ line.
        place_read (version_at block line old) (version_at block line vs) (numbered items line) (carried block line) (shows line)
        (λ v e. (table.sound block line v e, table.behind_header block line v e))

    pub table_read : ReadsTable columns sees was_row old first blocks
    table_read =
        record {
          each = λ block below. seen_read block (blocks block) below (table.shows block);
          past = λ block past. none_there o opened old first block (before block) past (then_shown.shows block);
          apart = then_shown.apart;
          lost = then_shown.lost;
        }

pub keeps_rows : PrefixIsLegal → AlwaysStay → BlocksShowVersions → SeesOpened → ScanGivesRead → KeepsRows
keeps_rows prefix stay blocks_show sees_opened gives o known later opened view table locator columns xmin was now here empty none legal rises fits along_then ready since is_xmin present unlocked free done =
    let log : List Rec = later ++ opened in
    let sees : List ℕ → Result Bool Unknown = sees_by (take_of was.known) now in
    let legal_before = legal_then prefix o known later opened legal in
    let along = (legal_rows known locator table here o log legal.rows).along in
    let shown_before =
    blocks_show o known opened legal_before.view table locator here empty legal_before (rises_then later opened rises)
    (fits_then later opened fits) legal_before.redone present in
    let shown_now =
    blocks_show o known log view table locator here empty legal rises fits done
    (still_there stay o locator opened xmin is_xmin present unlocked shown_before.sound later along free) in
    let reads =
    table_read o later opened columns sees (sees_opened o later opened was now none legal.transactions along_then ready since)
    (versions o locator opened) (versions o locator log) (block_count o locator opened) (block_count o locator log)
    (legal_before.view table) (view table)
    (count_along stay o locator opened xmin is_xmin present unlocked shown_before.sound later along free)
    (carried_along stay o locator opened xmin is_xmin present unlocked shown_before.sound later along legal.transactions legal.multixacts free)
    shown_before shown_now in
    gives columns sees (multixacts opened) (committed_in o opened) (versions o locator opened) (block_count o locator opened)
    (view table) reads
