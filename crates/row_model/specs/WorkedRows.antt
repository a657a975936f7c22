-- A log of a table's rows, worked by hand: 700 inserts (1, 'alpha-one-omega') into a new block and commits, and 701
-- updates it in the same block to (1, 'alpha-two-omega'), of which its record has only what differs, and commits.
-- Sources: heapam.c (heap_insert, heap_update, log_heap_update), htup_details.h.
use Rattle.std.specs.Prelude.{ℕ, ◌-◌, pos, Bool, true, false, List, [], ◌∷◌, All, None, if◌then◌else◌}
use Rattle.pg_types.specs.declared.names.Locator.{Locator}
use Rattle.pg_types.specs.Locators.{same_locator}
use Rattle.typed_records.specs.declared.types.NewTuple.{NewTuple}
use Rattle.typed_records.specs.declared.types.RecBlock.{RecBlock}
use Rattle.typed_records.specs.declared.types.Rec.{Rec}
use Rattle.typed_records.specs.declared.types.RecKind.{RecKind}
use Rattle.typed_records.specs.declared.types.RecKind.TheVariants.{Checkpoint, BackupEnd, Ended, Running, Insert, Update}
use Rattle.heap_tuple.specs.declared.tuple_view.MaxOf.TheVariants.{None as NoDeleter}
use Rattle.transaction_model.specs.LegalTransactions.{TransactionOrigin}
use Rattle.row_model.specs.Versions.{Version, By}
use Rattle.row_model.specs.Origins.{BeginsEmpty, LogOrigin, committed_in, empty_table}
use Rattle.row_model.specs.Multixacts.{multixacts}
use Rattle.row_model.specs.RowSteps.{versions}
use Rattle.row_model.specs.Rows.{IsRows}
use Rattle.record_numbers.specs.Fits.{RecordFits}
use Rattle.row_model.specs.LegalRows.{LegalLog}

-- nothing has committed or aborted, and each id is a top transaction
abbrev pub worked_ids : TransactionOrigin
worked_ids =
    record { at = record { is_committed = λ (x : ℕ). false; is_aborted = λ (x : ℕ). false }; top = λ (x : ℕ). x }

-- the files of the two described tables, and the oid of each; 0 of any other
abbrev pub worked_table : Locator
worked_table = record { space = 1663; db = 16384; rel = 16385 }

abbrev pub unworked_table : Locator
unworked_table = record { space = 1663; db = 16384; rel = 16390 }

abbrev pub worked_oid : Locator → ℕ
worked_oid table =
    if same_locator worked_table table then 16385 else if same_locator unworked_table table then 16390 else 0

-- and each table is empty
abbrev pub worked_origin : LogOrigin
worked_origin = record { transactions = worked_ids; tables = λ (table : Locator). empty_table (worked_oid table) }

-- a record of this manager and info, from one position to the next
abbrev pub worked_record : ℕ → ℕ → ℕ → ℕ → ℕ → RecKind → List RecBlock → Rec
worked_record start end xid manager info kind blocks =
    record {
      head =
          record {
            total = end - start;
            xid = record { 0 = xid };
            prev = record { 0 = 0 };
            info = info;
            manager = manager;
          };
      start = record { 0 = start };
      end = record { 0 = end };
      kind = kind;
      blocks = blocks;
    }

-- block 0 of the table with this tuple
abbrev pub worked_block : Bool → NewTuple → List RecBlock
worked_block anew tuple =
    record { id = 0; locator = worked_table; block = 0; will_init = anew; image = None; tuples = tuple ∷ [] } ∷ []

-- 1 as an int4, and 'alpha-one-omega' behind its header of one byte: its length of 16 with that byte, times 2, and 1
abbrev pub first_values : List ℕ
first_values =
    1 ∷ 0 ∷ 0 ∷ 0 ∷ 33
    ∷ 97 ∷ 108 ∷ 112 ∷ 104 ∷ 97 ∷ 45 ∷ 111 ∷ 110 ∷ 101 ∷ 45 ∷ 111 ∷ 109 ∷ 101 ∷ 103 ∷ 97 ∷ []

-- two columns, one of varying width (0x0002), and xmax is invalid (0x0800); the values begin at 24, behind one byte
abbrev pub first_tuple : NewTuple
first_tuple = record { mask2 = 2; mask = 0x0802; hoff = 24; prefix = 0; suffix = 0; rest = 0 ∷ first_values }

-- a heap-only tuple (0x8000) that an update made (0x2000); its first 11 bytes, up to 'alpha-', and its last 6, '-omega',
-- are the old one's, and 'two' is its own
abbrev pub second_tuple : NewTuple
second_tuple =
    record { mask2 = 0x8002; mask = 0x2802; hoff = 24; prefix = 11; suffix = 6; rest = 0 ∷ 116 ∷ 119 ∷ 111 ∷ [] }

-- a running record from one position to the next where nothing runs, with this next id
abbrev pub running_none : ℕ → ℕ → ℕ → Rec
running_none start end next =
    worked_record start end 0 8 0x10
    (Running 0 0 false (record { 0 = next }) (record { 0 = next }) (record { 0 = next - 1 }) [])
    []

-- a checkpoint from one position to the next, with this info, redo position and next id
abbrev pub checkpoint_at : ℕ → ℕ → ℕ → ℕ → ℕ → Rec
checkpoint_at start end info redo next =
    worked_record start end 0 0 info
    (Checkpoint
    (record { 0 = redo })
    (record { 0 = 1 })
    (record { 0 = 1 })
    true
    (record { 0 = next })
    1
    0
    1
    (record { 0 = next }))
    []

-- nothing runs as the log begins
abbrev pub nothing_runs : Rec
nothing_runs = running_none 0x2000028 0x2000060 700

abbrev pub online_checkpoint : Rec
online_checkpoint = checkpoint_at 0x2000060 0x20000D8 0x10 0x2000028 700

abbrev pub backup_end : Rec
backup_end = worked_record 0x20000D8 0x2000100 0 0 0x50 (BackupEnd (record { 0 = 0x2000028 })) []

abbrev pub insert_by_700 : Rec
insert_by_700 = worked_record 0x2000100 0x2000150 700 10 0x80 (Insert 1 0) (worked_block true first_tuple)

abbrev pub commit_of_700 : Rec
commit_of_700 = worked_record 0x2000150 0x2000178 700 1 0x00 (Ended (pos 0) 0 [] []) []

-- heap-only (0x40), with a prefix and a suffix from the old version (0x60)
abbrev pub update_by_701 : Rec
update_by_701 =
    worked_record 0x2000178 0x20001C8 701 10 0x40 (Update (record { 0 = 701 }) 1 0 0x60 (record { 0 = 0 }) 2) (worked_block false second_tuple)

abbrev pub commit_of_701 : Rec
commit_of_701 = worked_record 0x20001C8 0x20001F0 701 1 0x00 (Ended (pos 0) 0 [] []) []

-- before the first row, after the first commit, and after the second
abbrev pub worked_start : List Rec
worked_start = backup_end ∷ online_checkpoint ∷ nothing_runs ∷ []

abbrev pub worked_first : List Rec
worked_first = commit_of_700 ∷ insert_by_700 ∷ worked_start

abbrev pub worked_log : List Rec
worked_log = commit_of_701 ∷ update_by_701 ∷ worked_first

-- a version that 700 inserted at line 1 of block 0: xmin 700, xmax 0, command 0, ctid (0,1), the masks and where its values
-- begin, and its values
abbrev pub inserted_by_700 : List ℕ → Version
inserted_by_700 values =
    record {
      block = 0;
      line = 1;
      inserter = By 700;
      deleter = NoDeleter;
      frozen = false;
      holds = true;
      tuple =
          188 ∷ 2 ∷ 0 ∷ 0
          ∷ 0 ∷ 0 ∷ 0 ∷ 0
          ∷ 0 ∷ 0 ∷ 0 ∷ 0
          ∷ 0 ∷ 0 ∷ 0 ∷ 0 ∷ 1 ∷ 0
          ∷ 2 ∷ 0 ∷ 2 ∷ 8 ∷ 24 ∷ 0
          ∷ values;
    }

-- the first version: 1 and 'alpha-one-omega'
abbrev pub first_row : Version
first_row = inserted_by_700 first_values

-- that of the second: xmin 701, ctid (0,2), and 'alpha-two-omega'
abbrev pub second_row : Version
second_row =
    record {
      block = 0;
      line = 2;
      inserter = By 701;
      deleter = NoDeleter;
      frozen = false;
      holds = true;
      tuple =
          189 ∷ 2 ∷ 0 ∷ 0
          ∷ 0 ∷ 0 ∷ 0 ∷ 0
          ∷ 0 ∷ 0 ∷ 0 ∷ 0
          ∷ 0 ∷ 0 ∷ 0 ∷ 0 ∷ 2 ∷ 0
          ∷ 2 ∷ 128 ∷ 2 ∷ 40 ∷ 24 ∷ 0
          ∷ 1 ∷ 0 ∷ 0 ∷ 0 ∷ 33
          ∷ 97 ∷ 108 ∷ 112 ∷ 104 ∷ 97 ∷ 45 ∷ 116 ∷ 119 ∷ 111 ∷ 45 ∷ 111 ∷ 109 ∷ 101 ∷ 103 ∷ 97 ∷ [];
    }

-- the rows after a log
abbrev pub AreRowsAfter : List Rec → List Version → Type 0
AreRowsAfter log rows =
    IsRows (multixacts log) (committed_in worked_origin log) (versions worked_origin worked_table log) rows

pub record IsWorkedRows : Type 0 where
  pub empty : BeginsEmpty worked_origin
  pub fits : All RecordFits worked_log
  pub legal : LegalLog worked_origin (worked_table ∷ []) worked_log
  pub first : AreRowsAfter worked_first (first_row ∷ [])
  pub second : AreRowsAfter worked_log (second_row ∷ [])
