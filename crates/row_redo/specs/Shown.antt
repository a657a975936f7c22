-- What the blocks of a table show of its rows after a log was replayed.
use Rattle.std.specs.Prelude.{◌≡◌, ℕ, false, List, All, Some, Ok}
use Rattle.pg_types.specs.declared.names.Locator.{Locator}
use Rattle.typed_records.specs.declared.types.Rec.{Rec}
use Rattle.page_store.specs.Seen.{View}
use Rattle.heap_redo.specs.Redone.{table_of}
use Rattle.row_model.specs.Locks.{is_gone}
use Rattle.row_model.specs.Origins.{BeginsEmpty, LogOrigin}
use Rattle.row_model.specs.RowSteps.{block_count, versions, view_after}
use Rattle.record_numbers.specs.Fits.{RecordFits}
use Rattle.row_model.specs.LegalRows.{LegalLog}
use Rattle.row_model.specs.Shown.{ShowsTable}
use Rattle.wal_bodies.specs.Ends.{Rises}

-- after a legal log that began with empty tables the blocks of each described table that was not dropped show its versions
abbrev pub BlocksShowVersions : Type 0
BlocksShowVersions =
    (o : LogOrigin) (known : List Locator) (log : List Rec) (view : View) (table : ℕ) (locator : Locator)
    → table_of known locator ≡ Some table → BeginsEmpty o → LegalLog o known log → Rises 0 log → All RecordFits log
    → view_after o known log ≡ Ok view → is_gone locator log ≡ false
    → ShowsTable o log (versions o locator log) (block_count o locator log) (view table)
