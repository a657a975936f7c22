-- A third log, worked by hand, behind row_model's: the page is pruned of the row that 701 replaced, and the row that stands
-- is frozen; 702 inserts into a new block 1 and aborts, its tuple is pruned and its line freed; 703 locks the table, cuts it
-- to one block and commits.
-- Sources: pruneheap.c (heap_prune_chain, heap_page_prune_execute), heapam.c (heap_prepare_freeze_tuple), vacuumlazy.c
-- (lazy_truncate_heap), storage.c (RelationTruncate).
use Rattle.std.specs.Prelude.{◌≡◌, pos, Bool, true, false, List, [], ◌∷◌, None}
use Rattle.record_fields.specs.declared.entries.LockEntry.{LockEntry}
use Rattle.typed_records.specs.declared.types.NewTuple.{NewTuple}
use Rattle.typed_records.specs.declared.types.RecBlock.{RecBlock}
use Rattle.typed_records.specs.declared.types.Rec.{Rec}
use Rattle.typed_records.specs.declared.types.RecKind.TheVariants.{Ended, Freeze, Insert, Locks, Prune, Truncate, Vacuum}
use Rattle.row_model.specs.Versions.{Version}
use Rattle.row_model.specs.Origins.{committed_in}
use Rattle.row_model.specs.Multixacts.{multixacts}
use Rattle.row_model.specs.RowSteps.{block_count, versions}
use Rattle.row_model.specs.Rows.{IsRows}
use Rattle.row_model.specs.LegalRows.{LegalLog}
use Rattle.row_model.specs.WorkedRows.{first_tuple, second_row, worked_log, worked_origin, worked_record, worked_table}
use Rattle.worked_logs.specs.BrokenLogs.{bare_block, frozen_plan}

-- line 1 of block 0 leads to line 2, as both are of one update within a page
abbrev pub prune_of_replaced : Rec
prune_of_replaced =
    worked_record 0x20001F0 0x2000230 0 9 0x10 (Prune (record { 0 = 701 }) 0 (record { from = 1; to = 2 } ∷ []) [] [])
    (bare_block 0 false ∷ [])

abbrev pub freeze_of_row : Rec
freeze_of_row =
    worked_record 0x2000230 0x2000270 0 9 0x30 (Freeze (record { 0 = 701 }) 0 (frozen_plan ∷ [])) (bare_block 0 false ∷ [])

-- block 1 of the table
abbrev pub second_block : Bool → List NewTuple → List RecBlock
second_block anew tuples =
    record { id = 0; locator = worked_table; block = 1; will_init = anew; image = None; tuples = tuples } ∷ []

abbrev pub insert_that_fails : Rec
insert_that_fails = worked_record 0x2000270 0x20002C0 702 10 0x80 (Insert 1 0) (second_block true (first_tuple ∷ []))

abbrev pub abort_of_702 : Rec
abort_of_702 = worked_record 0x20002C0 0x20002E8 702 1 0x20 (Ended (pos 0) 0 [] []) []

-- its tuple is taken away, which no snapshot sees, and then its line is free
abbrev pub prune_of_failed : Rec
prune_of_failed =
    worked_record 0x20002E8 0x2000320 0 9 0x10 (Prune (record { 0 = 0 }) 0 [] (1 ∷ []) []) (second_block false [])

abbrev pub vacuum_of_line : Rec
vacuum_of_line = worked_record 0x2000320 0x2000350 0 9 0x20 (Vacuum (1 ∷ [])) (second_block false [])

abbrev pub lock_of_703 : LockEntry
lock_of_703 = record { xid = record { 0 = 703 }; database = 16384; relation = 16385 }

abbrev pub lock_by_703 : Rec
lock_by_703 = worked_record 0x2000350 0x2000378 703 8 0x00 (Locks (lock_of_703 ∷ [])) []

abbrev pub truncate_by_703 : Rec
truncate_by_703 = worked_record 0x2000378 0x20003A8 703 2 0x20 (Truncate 1 worked_table (pos 7)) []

abbrev pub commit_of_703 : Rec
commit_of_703 = worked_record 0x20003A8 0x20003D0 703 1 0x00 (Ended (pos 0) 0 [] []) []

-- the log up to the freeze, up to the insert, up to the freed line, and all of it
abbrev pub frozen_log : List Rec
frozen_log = freeze_of_row ∷ prune_of_replaced ∷ worked_log

abbrev pub inserted_log : List Rec
inserted_log = insert_that_fails ∷ frozen_log

abbrev pub vacuumed_log : List Rec
vacuumed_log = vacuum_of_line ∷ prune_of_failed ∷ abort_of_702 ∷ inserted_log

abbrev pub removal_log : List Rec
removal_log = commit_of_703 ∷ truncate_by_703 ∷ lock_by_703 ∷ vacuumed_log

-- the row that stands, marked frozen
abbrev pub frozen_row : Version
frozen_row = record second_row { frozen = true }

-- the log is legal, the table has one block after it, and the row that stood stands
pub record IsRemovalLog : Type 0 where
  pub legal : LegalLog worked_origin (worked_table ∷ []) removal_log
  pub count : block_count worked_origin worked_table removal_log ≡ 1
  pub rows :
      IsRows (multixacts removal_log) (committed_in worked_origin removal_log)
      (versions worked_origin worked_table removal_log) (frozen_row ∷ [])
