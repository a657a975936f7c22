-- A place that is used again while a scan is open, worked by hand behind the first commit of row_model's log: 701 inserts a
-- second row, deletes the first one and commits; a scan is opened; then a vacuum prunes the tuple of the first row, freezes
-- that of the second and frees the line of the first, at which 702 inserts a third row and commits.
-- Sources: vacuumlazy.c (lazy_scan_prune, lazy_vacuum_heap_page), heapam_xlog.h, htup_details.h.
use Rattle.std.specs.Prelude.{◌≡◌, ℕ, pos, true, false, List, [], ◌∷◌, ◌++◌, All, Some, None, Ok}
use Rattle.heap_tuple.specs.declared.cell.Column.{Column}
use Rattle.heap_tuple.specs.declared.tuple_view.MaxOf.TheVariants.{None as NoDeleter}
use Rattle.record_fields.specs.declared.entries.FreezePlan as listed
use Rattle.wal_bodies.specs.Ends.{Rises}
use Rattle.typed_records.specs.declared.types.NewTuple.{NewTuple}
use Rattle.typed_records.specs.declared.types.RecBlock.{RecBlock}
use Rattle.typed_records.specs.declared.types.Rec.{Rec}
use Rattle.typed_records.specs.declared.types.RecKind.TheVariants.{Delete, Ended, Freeze, Insert, Prune, Vacuum}
use Rattle.page_store.specs.Seen.{View}
use Rattle.record_numbers.specs.Fits.{RecordFits}
use Rattle.known_assigned.specs.declared.state.State.TheVariants.{Ready}
use Rattle.standby_snapshot.specs.Snapshot.{take_of}
use Rattle.transaction_model.specs.Transactions.{IsXmin}
use Rattle.xact_redo.specs.Sees.{sees_by}
use Rattle.xact_redo.specs.TransactionsOf.{transactions_of}
use Rattle.row_model.specs.Versions.{Version, By, version_at}
use Rattle.row_model.specs.Origins.{committed_in}
use Rattle.row_model.specs.Multixacts.{multixacts}
use Rattle.row_model.specs.Conflicts.{AreFree, conflicts}
use Rattle.row_model.specs.Locks.{is_gone, locks}
use Rattle.row_model.specs.RowSteps.{versions, view_after}
use Rattle.row_model.specs.Rows.{IsRows}
use Rattle.row_model.specs.LegalRows.{LegalLog}
use Rattle.row_model.specs.WorkedRows.{worked_block, worked_first, worked_origin, worked_record, worked_table}
use Rattle.row_visibility.specs.Sees.{state_along}
use Rattle.row_pages.specs.Pages.{AreScanned}

-- 2 and 'beta', 3 and 'gamma': an int4, and a text behind its header of one byte
abbrev pub second_values : List ℕ
second_values = 2 ∷ 0 ∷ 0 ∷ 0 ∷ 11 ∷ 98 ∷ 101 ∷ 116 ∷ 97 ∷ []

abbrev pub third_values : List ℕ
third_values = 3 ∷ 0 ∷ 0 ∷ 0 ∷ 13 ∷ 103 ∷ 97 ∷ 109 ∷ 109 ∷ 97 ∷ []

-- as the first tuple: two columns, one of varying width (0x0002), xmax invalid (0x0800), the values behind one byte
abbrev pub tuple_with : List ℕ → NewTuple
tuple_with values = record { mask2 = 2; mask = 0x0802; hoff = 24; prefix = 0; suffix = 0; rest = 0 ∷ values }

-- block 0 of the table, without a tuple
abbrev pub bare_block : List RecBlock
bare_block = record { id = 0; locator = worked_table; block = 0; will_init = false; image = None; tuples = [] } ∷ []

abbrev pub insert_second : Rec
insert_second = worked_record 0x2000178 0x20001C0 701 10 0x00 (Insert 2 0) (worked_block false (tuple_with second_values))

-- its key is updated, as it is deleted (0x10)
abbrev pub delete_first : Rec
delete_first = worked_record 0x20001C0 0x20001F8 701 10 0x10 (Delete (record { 0 = 701 }) 1 0x10 0) bare_block

abbrev pub commit_second : Rec
commit_second = worked_record 0x20001F8 0x2000220 701 1 0x00 (Ended (pos 0) 0 [] []) []

-- line 1 is dead, whose tuple 701 deleted
abbrev pub prune_first : Rec
prune_first = worked_record 0x2000220 0x2000258 0 9 0x10 (Prune (record { 0 = 701 }) 0 [] (1 ∷ []) []) bare_block

-- line 2 is frozen (0x0300), which 701 inserted
abbrev pub freeze_plan : listed.FreezePlan
freeze_plan = record { xmax = record { 0 = 0 }; mask2 = 2; mask = 0x0B02; flags = 0; lines = 2 ∷ [] }

abbrev pub freeze_second : Rec
freeze_second = worked_record 0x2000258 0x2000298 0 9 0x30 (Freeze (record { 0 = 701 }) 0 (freeze_plan ∷ [])) bare_block

-- line 1 is free
abbrev pub free_first : Rec
free_first = worked_record 0x2000298 0x20002D0 0 9 0x20 (Vacuum (1 ∷ [])) bare_block

abbrev pub insert_third : Rec
insert_third = worked_record 0x20002D0 0x2000318 702 10 0x00 (Insert 1 0) (worked_block false (tuple_with third_values))

abbrev pub commit_third : Rec
commit_third = worked_record 0x2000318 0x2000340 702 1 0x00 (Ended (pos 0) 0 [] []) []

-- the log up to the opening, and what follows it
abbrev pub reuse_opened : List Rec
reuse_opened = commit_second ∷ delete_first ∷ insert_second ∷ worked_first

abbrev pub reuse_later : List Rec
reuse_later = commit_third ∷ insert_third ∷ free_first ∷ freeze_second ∷ prune_first ∷ []

abbrev pub reuse_log : List Rec
reuse_log = reuse_later ++ reuse_opened

-- a row at a line, as a transaction inserted it whose id is 512 more than this byte
abbrev pub inserted_at : ℕ → ℕ → ℕ → List ℕ → Version
inserted_at line xid low values =
    record {
      block = 0;
      line = line;
      inserter = By xid;
      deleter = NoDeleter;
      frozen = false;
      holds = true;
      tuple =
          low ∷ 2 ∷ 0 ∷ 0
          ∷ 0 ∷ 0 ∷ 0 ∷ 0
          ∷ 0 ∷ 0 ∷ 0 ∷ 0
          ∷ 0 ∷ 0 ∷ 0 ∷ 0 ∷ line ∷ 0
          ∷ 2 ∷ 0 ∷ 2 ∷ 8 ∷ 24 ∷ 0
          ∷ values;
    }

abbrev pub second_version : Version
second_version = inserted_at 2 701 189 second_values

abbrev pub third_version : Version
third_version = inserted_at 1 702 190 third_values

pub record IsWorkedReuse : Type 0 where
  pub legal : LegalLog worked_origin (worked_table ∷ []) reuse_log
  pub rises : Rises 0 reuse_log
  pub fits : All RecordFits reuse_log
  pub ready : (state_along reuse_opened).known.mode ≡ Ready
  -- 702 is the least live id at the opening, the table was not dropped and is not locked, and no record after it conflicts
  pub xmin : IsXmin worked_origin.transactions.at 702 (transactions_of reuse_opened)
  pub present : is_gone worked_table reuse_opened ≡ false
  pub unlocked : locks worked_origin worked_table reuse_opened ≡ []
  pub free : AreFree worked_origin worked_table 702 reuse_later
  -- with a scan that was opened before the deletion the prune conflicts
  pub conflict : conflicts worked_origin worked_table 701 prune_first ≡ true
  -- the row at the opening is the second one, at line 2, and a third stands at line 1 at last, where the first one stood
  pub rows :
      IsRows (multixacts reuse_opened) (committed_in worked_origin reuse_opened)
      (versions worked_origin worked_table reuse_opened) (second_version ∷ [])
  pub reused : version_at 0 1 (versions worked_origin worked_table reuse_log) ≡ Some third_version
  -- block 0 gives the second row alone still
  pub kept :
      (view : View) (columns : List Column) → view_after worked_origin (worked_table ∷ []) reuse_log ≡ Ok view
      → AreScanned columns (sees_by (take_of (state_along reuse_opened).known) (state_along reuse_log)) 1 (view 0) (second_version ∷ [])
