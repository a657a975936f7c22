-- A scan that is opened in the worked log before its update, and is read at its end: so what the law asks for can be met.
use Rattle.std.specs.Prelude.{◌≡◌, false, List, [], ◌∷◌, Ok}
use Rattle.heap_tuple.specs.declared.cell.Column.{Column}
use Rattle.wal_bodies.specs.Ends.{Rises}
use Rattle.page_store.specs.Seen.{View}
use Rattle.known_assigned.specs.declared.state.State.TheVariants.{Ready}
use Rattle.standby_snapshot.specs.Snapshot.{take_of}
use Rattle.transaction_model.specs.Transactions.{IsXmin}
use Rattle.xact_redo.specs.Sees.{sees_by}
use Rattle.xact_redo.specs.TransactionsOf.{transactions_of}
use Rattle.row_model.specs.Conflicts.{AreFree}
use Rattle.row_model.specs.Locks.{is_gone, locks}
use Rattle.row_model.specs.RowSteps.{view_after}
use Rattle.row_model.specs.WorkedRows.{commit_of_701, first_row, update_by_701, worked_first, worked_log, worked_origin, worked_table}
use Rattle.row_visibility.specs.Sees.{HasNoStatuses, state_along}
use Rattle.row_pages.specs.Pages.{AreScanned}

pub record IsWorkedKept : Type 0 where
  pub none : HasNoStatuses worked_origin.transactions.at
  pub rises : Rises 0 worked_log
  pub ready : (state_along worked_first).known.mode ≡ Ready
  -- 701 is the least live id at the opening, the table was not dropped and is not locked, and the update of it and its
  -- commit take nothing away
  pub xmin : IsXmin worked_origin.transactions.at 701 (transactions_of worked_first)
  pub present : is_gone worked_table worked_first ≡ false
  pub unlocked : locks worked_origin worked_table worked_first ≡ []
  pub free : AreFree worked_origin worked_table 701 (commit_of_701 ∷ update_by_701 ∷ [])
  -- block 0 gives the first row still, once 701 has updated it and committed
  pub kept :
      (view : View) (columns : List Column) → view_after worked_origin (worked_table ∷ []) worked_log ≡ Ok view
      → AreScanned columns (sees_by (take_of (state_along worked_first).known) (state_along worked_log)) 1 (view 0) (first_row ∷ [])
