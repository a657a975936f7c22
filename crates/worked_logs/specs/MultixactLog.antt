-- A fourth log, worked by hand, behind row_model's update of the first row, which has not committed yet: a multixact is made
-- of 701, which updates the row, and of 702, which locks it for its key; the old version shows it; both commit.
-- Sources: multixact.c (MultiXactIdCreate), multixact.h, heapam.c (heap_lock_tuple, compute_new_xmax_infomask).
use Rattle.std.specs.Prelude.{◌≡◌, pos, false, List, [], ◌∷◌, Some}
use Rattle.typed_records.specs.declared.types.Rec.{Rec}
use Rattle.typed_records.specs.declared.types.RecKind.TheVariants.{Ended, Lock}
use Rattle.heap_tuple.specs.declared.tuple_view.MaxOf.TheVariants.{Multi}
use Rattle.row_model.specs.Versions.{Version, version_at}
use Rattle.row_model.specs.RowSteps.{versions}
use Rattle.row_model.specs.LegalRows.{LegalLog}
use Rattle.row_model.specs.WorkedRows.{AreRowsAfter, first_row, second_row, update_by_701, worked_first, worked_origin, worked_record, worked_table}
use Rattle.worked_logs.specs.BrokenLogs.{bare_block, member, multixact_at}

abbrev pub updated_log : List Rec
updated_log = update_by_701 ∷ worked_first

abbrev pub multixact_of_both : Rec
multixact_of_both = multixact_at 0x20001C8 0x2000200 1 (member 701 4 ∷ member 702 0 ∷ [])

-- xmax of line 1 is a multixact (XLHL_XMAX_IS_MULTI), and not a lock alone
abbrev pub lock_by_both : Rec
lock_by_both = worked_record 0x2000200 0x2000238 702 10 0x60 (Lock (record { 0 = 1 }) 1 0x01 0) (bare_block 0 false ∷ [])

abbrev pub commit_of_updater : Rec
commit_of_updater = worked_record 0x2000238 0x2000260 701 1 0x00 (Ended (pos 0) 0 [] []) []

abbrev pub commit_of_locker : Rec
commit_of_locker = worked_record 0x2000260 0x2000288 702 1 0x00 (Ended (pos 0) 0 [] []) []

-- the log up to the lock, and all of it
abbrev pub shared_log : List Rec
shared_log = lock_by_both ∷ multixact_of_both ∷ updated_log

abbrev pub multixact_log : List Rec
multixact_log = commit_of_locker ∷ commit_of_updater ∷ shared_log

-- the old version, whose deleter is the multixact
abbrev pub shared_row : Version
shared_row = record first_row { deleter = Multi 1 }

-- the log is legal; while both run the old version is the row still, and once the updater has committed the new one is
pub record IsMultixactLog : Type 0 where
  pub legal : LegalLog worked_origin (worked_table ∷ []) multixact_log
  pub shared : version_at 0 1 (versions worked_origin worked_table multixact_log) ≡ Some shared_row
  pub before : AreRowsAfter shared_log (shared_row ∷ [])
  pub rows : AreRowsAfter multixact_log (second_row ∷ [])
