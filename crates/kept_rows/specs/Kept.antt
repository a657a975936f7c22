-- What an open scan gives of a table while further records are replayed.
-- Sources: heapam.c (initscan reads the number of blocks as a scan begins, heapgetpage tests each tuple by the scan's
-- snapshot), snapmgr.c (GetActiveSnapshot), access/transam/README.
use Rattle.std.specs.Prelude.{◌≡◌, ℕ, false, List, [], ◌++◌, All, Some, Ok}
use Rattle.pg_types.specs.declared.names.Locator.{Locator}
use Rattle.heap_tuple.specs.declared.cell.Column.{Column}
use Rattle.typed_records.specs.declared.types.Rec.{Rec}
use Rattle.wal_bodies.specs.Ends.{Rises}
use Rattle.page_store.specs.Seen.{View}
use Rattle.heap_redo.specs.Redone.{table_of}
use Rattle.known_assigned.specs.declared.state.State.TheVariants.{Ready}
use Rattle.standby_snapshot.specs.Snapshot.{take_of}
use Rattle.transaction_model.specs.Transactions.{IsXmin}
use Rattle.xact_redo.specs.Sees.{sees_by}
use Rattle.xact_redo.specs.State.{TransactionState}
use Rattle.xact_redo.specs.TransactionsOf.{transactions_of}
use Rattle.record_numbers.specs.Fits.{RecordFits}
use Rattle.row_model.specs.Versions.{Version}
use Rattle.row_model.specs.Origins.{BeginsEmpty, LogOrigin, committed_in}
use Rattle.row_model.specs.Multixacts.{multixacts}
use Rattle.row_model.specs.Locks.{is_gone, locks}
use Rattle.row_model.specs.RowSteps.{block_count, versions, view_after}
use Rattle.row_model.specs.Rows.{IsRows}
use Rattle.row_model.specs.LegalRows.{LegalLog}
use Rattle.row_model.specs.Conflicts.{AreFree}
use Rattle.row_visibility.specs.Sees.{HasNoStatuses, IsAlong, IsAlongFrom}
use Rattle.row_pages.specs.Pages.{AreScanned}

-- A scan is opened over the log `opened`, after which this was known of transactions, where the table was not dropped and
-- no lock of it is in force. After further records of which none conflicts with it, and while the parents are kept that its
-- snapshot asks for, that snapshot sees, in the blocks that the table had at the opening, exactly the rows that were
-- committed then.
abbrev pub KeepsRows : Type 0
KeepsRows =
    (o : LogOrigin) (known : List Locator) (later opened : List Rec) (view : View) (table : ℕ) (locator : Locator)
    (columns : List Column) (xmin : ℕ) (was now : TransactionState) → table_of known locator ≡ Some table → BeginsEmpty o → HasNoStatuses o.transactions.at
    → LegalLog o known (later ++ opened) → Rises 0 (later ++ opened) → All RecordFits (later ++ opened)
    → IsAlong opened was → was.known.mode ≡ Ready → IsAlongFrom was (take_of was.known).xmin later now
    → IsXmin o.transactions.at xmin (transactions_of opened)
    → is_gone locator opened ≡ false → locks o locator opened ≡ [] → AreFree o locator xmin later
    → view_after o known (later ++ opened) ≡ Ok view
    → (rows : List Version) × IsRows (multixacts opened) (committed_in o opened) (versions o locator opened) rows
    × AreScanned columns (sees_by (take_of was.known) now) (block_count o locator opened) (view table) rows
