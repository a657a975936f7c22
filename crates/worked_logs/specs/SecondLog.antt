-- A second log, worked by hand, behind the first commit of row_model's: a running record and an online checkpoint; 701
-- deletes line 1 of block 0, whose page the record has whole, and aborts; 702 inserts into a new block 1, its
-- subtransaction 703 beside it, and both commit.
-- Sources: heapam.c (heap_insert, heap_delete), xloginsert.c (XLogRecordAssemble), bufpage.h, xact.c
-- (XactLogCommitRecord), standby.c (LogStandbySnapshot).
use Rattle.std.specs.Prelude.{ℕ, pos, ◌==◌, Bool, true, false, List, [], ◌∷◌, ◌++◌, Some, None, if◌then◌else◌}
use Rattle.pg_types.specs.declared.names.Locator.{Locator}
use Rattle.typed_records.specs.declared.types.RecImage.{RecImage}
use Rattle.typed_records.specs.declared.types.RecBlock.{RecBlock}
use Rattle.typed_records.specs.declared.types.Rec.{Rec}
use Rattle.typed_records.specs.declared.types.RecKind.TheVariants.{Delete, Ended, Insert}
use Rattle.heap_tuple.specs.declared.tuple_view.MaxOf.TheVariants.{None as NoDeleter, Xid as DeletedBy}
use Rattle.transaction_model.specs.LegalTransactions.{TransactionOrigin}
use Rattle.row_model.specs.Versions.{Version, By}
use Rattle.row_model.specs.Origins.{LogOrigin, committed_in, empty_table}
use Rattle.row_model.specs.Multixacts.{multixacts}
use Rattle.row_model.specs.RowSteps.{versions}
use Rattle.row_model.specs.Rows.{IsRows}
use Rattle.row_model.specs.LegalRows.{LegalLog}
use Rattle.row_model.specs.WorkedRows.{checkpoint_at, first_row, first_tuple, first_values, running_none, worked_first, worked_record, worked_table}

-- 703 is a subtransaction of 702
abbrev pub second_top : ℕ → ℕ
second_top x = if x == 703 then 702 else x

abbrev pub second_ids : TransactionOrigin
second_ids =
    record { at = record { is_committed = λ (x : ℕ). false; is_aborted = λ (x : ℕ). false }; top = second_top }

abbrev pub second_origin : LogOrigin
second_origin = record { transactions = second_ids; tables = λ (table : Locator). empty_table 16385 }

-- nothing runs, and 701 is the next id
abbrev pub running_701 : Rec
running_701 = running_none 0x2000178 0x20001B0 701

abbrev pub checkpoint_701 : Rec
checkpoint_701 = checkpoint_at 0x20001B0 0x2000228 0x10 0x2000178 701

-- the tuple of line 1 once 701 deleted it: xmax 701, keys updated (0x2000), xmin known committed (0x0100)
abbrev pub deleted_tuple : List ℕ
deleted_tuple =
    188 ∷ 2 ∷ 0 ∷ 0
    ∷ 189 ∷ 2 ∷ 0 ∷ 0
    ∷ 0 ∷ 0 ∷ 0 ∷ 0
    ∷ 0 ∷ 0 ∷ 0 ∷ 0 ∷ 1 ∷ 0
    ∷ 2 ∷ 32 ∷ 2 ∷ 1 ∷ 24 ∷ 0
    ∷ first_values

-- the page's header: its position 0x2000150, the lines end at 28, the tuples begin at 8144, 701 may be pruned; and its
-- line pointer: 44 bytes at 8144, normal
abbrev pub page_begin : List ℕ
page_begin =
    0 ∷ 0 ∷ 0 ∷ 0 ∷ 80 ∷ 1 ∷ 0 ∷ 2
    ∷ 0 ∷ 0 ∷ 0 ∷ 0 ∷ 28 ∷ 0 ∷ 208 ∷ 31 ∷ 0 ∷ 32 ∷ 4 ∷ 32 ∷ 189 ∷ 2 ∷ 0 ∷ 0
    ∷ 208 ∷ 159 ∷ 88 ∷ 0 ∷ []

-- the page, its hole from the end of the lines to the tuple, which ends at a multiple of 8
abbrev pub page_image : RecImage
page_image =
    record { apply = true; hole_at = 28; bytes = page_begin ++ deleted_tuple ++ 0 ∷ 0 ∷ 0 ∷ 0 ∷ [] }

abbrev pub deleted_block : RecBlock
deleted_block =
    record { id = 0; locator = worked_table; block = 0; will_init = false; image = Some page_image; tuples = [] }

abbrev pub delete_by_701 : Rec
delete_by_701 = worked_record 0x2000228 0x20002A8 701 10 0x10 (Delete (record { 0 = 701 }) 1 0x10 0) (deleted_block ∷ [])

abbrev pub abort_of_701 : Rec
abort_of_701 = worked_record 0x20002A8 0x20002D0 701 1 0x20 (Ended (pos 0) 0 [] []) []

-- block 1 of the table with a tuple
abbrev pub block_one : Bool → RecBlock
block_one anew =
    record { id = 0; locator = worked_table; block = 1; will_init = anew; image = None; tuples = first_tuple ∷ [] }

abbrev pub insert_by_702 : Rec
insert_by_702 = worked_record 0x20002D0 0x2000320 702 10 0x80 (Insert 1 0) (block_one true ∷ [])

abbrev pub insert_by_703 : Rec
insert_by_703 = worked_record 0x2000320 0x2000370 703 10 0x00 (Insert 2 0) (block_one false ∷ [])

-- with its subtransaction (XACT_XINFO_HAS_SUBXACTS)
abbrev pub commit_of_702 : Rec
commit_of_702 = worked_record 0x2000370 0x20003A8 702 1 0x80 (Ended (pos 0) 2 (record { 0 = 703 } ∷ []) []) []

abbrev pub second_checkpoint : List Rec
second_checkpoint = checkpoint_701 ∷ running_701 ∷ worked_first

abbrev pub second_aborted : List Rec
second_aborted = abort_of_701 ∷ delete_by_701 ∷ second_checkpoint

abbrev pub second_log : List Rec
second_log = commit_of_702 ∷ insert_by_703 ∷ insert_by_702 ∷ second_aborted

-- the row at line 1 of block 0 stands, as its deleter aborted
abbrev pub kept_row : Version
kept_row = record first_row { deleter = DeletedBy (record { 0 = 701 }) }

-- a row at a line of block 1, by this transaction, whose id has this low byte
abbrev pub row_of : ℕ → ℕ → ℕ → Version
row_of line xid low =
    record {
      block = 1;
      line = line;
      inserter = By xid;
      deleter = NoDeleter;
      frozen = false;
      holds = true;
      tuple =
          low ∷ 2 ∷ 0 ∷ 0
          ∷ 0 ∷ 0 ∷ 0 ∷ 0
          ∷ 0 ∷ 0 ∷ 0 ∷ 0
          ∷ 0 ∷ 0 ∷ 1 ∷ 0 ∷ line ∷ 0
          ∷ 2 ∷ 0 ∷ 2 ∷ 8 ∷ 24 ∷ 0
          ∷ first_values;
    }

abbrev pub second_rows : List Version
second_rows = kept_row ∷ row_of 1 702 190 ∷ row_of 2 703 191 ∷ []

pub record IsSecondLog : Type 0 where
  pub legal : LegalLog second_origin (worked_table ∷ []) second_log
  pub rows :
      IsRows (multixacts second_log) (committed_in second_origin second_log)
      (versions second_origin worked_table second_log) second_rows
