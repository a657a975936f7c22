-- Logs, worked by hand, each of which breaks one clause of the legal log and no other: the log that row_model works by
-- hand, which ends at 0x20001F0 with versions at lines 1 (deleted by 701) and 2 of block 0, and a record or three more.
-- Sources: heapam_xlog.h, xact.h, pg_control.h, standbydefs.h, storage_xlog.h, multixact.h.
use Rattle.std.specs.Prelude.{ℕ, pos, Bool, true, false, ◌≢◌, List, [], ◌∷◌, None}
use Rattle.record_fields.specs.declared.entries.LockEntry.{LockEntry}
use Rattle.record_fields.specs.declared.entries.FreezePlan.{FreezePlan}
use Rattle.record_fields.specs.declared.members.Member.{Member}
use Rattle.typed_records.specs.declared.types.NewTuple.{NewTuple}
use Rattle.typed_records.specs.declared.types.RecBlock.{RecBlock}
use Rattle.typed_records.specs.declared.types.Rec.{Rec}
use Rattle.typed_records.specs.declared.types.RecKind.TheVariants.{Delete, Ended, Freeze, Images, Insert, Lock, Locks as HeldLocks, MultiInsert, Multixact, Prune, Running, Truncate}
use Rattle.row_model.specs.WorkedRows.{checkpoint_at, first_tuple, running_none, worked_block, worked_log, worked_origin, worked_record, worked_table}
use Rattle.worked_logs.specs.Clauses.{Clause, Births, Deleters, Removals, Cut, Blocks, Locks, CheckpointLocks, Multixacts, Renews, Apart, Shutdowns, Transactions, NewMultixacts, Redone, Keeps}

-- a log of the worked table breaks this clause, and keeps every other
pub record BreaksOnly (clause : Clause) (log : List Rec) : Type 0 where
  pub breaks : Keeps clause worked_origin worked_table log → ⊥
  pub keeps : (other : Clause) → other ≢ clause → Keeps other worked_origin worked_table log

-- block 0 of the table under this id, without a tuple
abbrev pub bare_block : ℕ → Bool → RecBlock
bare_block id anew =
    record { id = id; locator = worked_table; block = 0; will_init = anew; image = None; tuples = [] }

-- 700 inserts at line 3 after its commit
abbrev pub insert_by_ended : Rec
insert_by_ended = worked_record 0x20001F0 0x2000240 700 10 0x00 (Insert 3 0) (worked_block false first_tuple)

-- 700 deletes line 2 after its commit
abbrev pub delete_by_ended : Rec
delete_by_ended = worked_record 0x20001F0 0x2000228 700 10 0x10 (Delete (record { 0 = 700 }) 2 0x10 0) (bare_block 0 false ∷ [])

-- 702 makes the block anew, over its two versions, by a multi-insert of no tuples
abbrev pub anew_again : Rec
anew_again = worked_record 0x20001F0 0x2000228 702 9 0xD0 (MultiInsert 0 []) (bare_block 0 true ∷ [])

-- 702 deletes line 2 by the multixact 5, which no record made: not a lock alone
abbrev pub lock_by_unmade : Rec
lock_by_unmade = worked_record 0x20001F0 0x2000228 702 10 0x60 (Lock (record { 0 = 5 }) 2 0x01 0) (bare_block 0 false ∷ [])

-- a member of a multixact, by its status (MultiXactStatus): 0 a key-share lock, 4 and 5 an update or a deletion
abbrev pub member : ℕ → ℕ → Member
member xid status = record { xid = record { 0 = xid }; status = status }

-- a multixact of two members, made by 702 from one position to the next
abbrev pub multixact_at : ℕ → ℕ → ℕ → List Member → Rec
multixact_at start end id members = worked_record start end 702 6 0x20 (Multixact id 0 members) []

-- it has the id 0
abbrev pub multixact_zero : Rec
multixact_zero = multixact_at 0x20001F0 0x2000228 0 (member 702 4 ∷ member 703 0 ∷ [])

-- one is made, and another by the same id
abbrev pub multixact_once : Rec
multixact_once = multixact_at 0x20001F0 0x2000228 5 (member 702 4 ∷ member 703 0 ∷ [])

abbrev pub multixact_again : Rec
multixact_again = multixact_at 0x2000228 0x2000260 5 (member 702 0 ∷ member 703 0 ∷ [])

-- both of its members update
abbrev pub multixact_of_updaters : Rec
multixact_of_updaters = multixact_at 0x20001F0 0x2000228 5 (member 702 4 ∷ member 703 5 ∷ [])

-- 702 deletes line 3, which is free
abbrev pub delete_of_none : Rec
delete_of_none = worked_record 0x20001F0 0x2000228 702 10 0x10 (Delete (record { 0 = 702 }) 3 0x10 0) (bare_block 0 false ∷ [])

-- 700 commits again
abbrev pub commit_again : Rec
commit_again = worked_record 0x20001F0 0x2000218 700 1 0x00 (Ended (pos 0) 0 [] []) []

-- a record of images for hints (XLOG_FPI_FOR_HINT) has the block twice; it has no image, and is left as it is
abbrev pub block_twice : Rec
block_twice = worked_record 0x20001F0 0x2000228 702 0 0xA0 Images (bare_block 0 false ∷ bare_block 1 false ∷ [])

-- a shutdown checkpoint with the redo position of the online one before it
abbrev pub shutdown_elsewhere : Rec
shutdown_elsewhere = checkpoint_at 0x20001F0 0x2000268 0x00 0x2000028 702

-- an online checkpoint at whose own start redo begins: no running record stands between
abbrev pub checkpoint_alone : Rec
checkpoint_alone = checkpoint_at 0x20001F0 0x2000268 0x10 0x20001F0 702

-- nothing runs, an online checkpoint with its redo position there, and 702 inserts at line 3 without an image
abbrev pub running_again : Rec
running_again = running_none 0x20001F0 0x2000228 702

abbrev pub checkpoint_again : Rec
checkpoint_again = checkpoint_at 0x2000228 0x20002A0 0x10 0x20001F0 702

abbrev pub insert_without_image : Rec
insert_without_image = worked_record 0x20002A0 0x20002F0 702 10 0x00 (Insert 3 0) (worked_block false first_tuple)

abbrev pub worked_checkpoint : List Rec
worked_checkpoint = checkpoint_again ∷ running_again ∷ worked_log

-- line 2 is freed, whose row stands
abbrev pub prune_of_row : Rec
prune_of_row =
    worked_record 0x20001F0 0x2000228 0 9 0x10 (Prune (record { 0 = 701 }) 0 [] [] (2 ∷ [])) (bare_block 0 false ∷ [])

-- the row of line 1 is taken away, which 701 deleted, with a horizon that stays below it
abbrev pub prune_below : Rec
prune_below =
    worked_record 0x20001F0 0x2000228 0 9 0x10 (Prune (record { 0 = 700 }) 0 [] (1 ∷ []) []) (bare_block 0 false ∷ [])

-- the tuple of line 2 is frozen (both marks of xmin, 0x0300), which 701 inserted, with a horizon that stays below it
abbrev pub frozen_plan : FreezePlan
frozen_plan = record { xmax = record { 0 = 0 }; mask2 = 0x8002; mask = 0x2B02; flags = 0; lines = 2 ∷ [] }

abbrev pub freeze_below : Rec
freeze_below =
    worked_record 0x20001F0 0x2000230 702 9 0x30 (Freeze (record { 0 = 700 }) 0 (frozen_plan ∷ [])) (bare_block 0 false ∷ [])

-- it is marked as one whose inserter failed (0x0200), which committed
abbrev pub failed_plan : FreezePlan
failed_plan = record { xmax = record { 0 = 0 }; mask2 = 0x8002; mask = 0x2A02; flags = 0; lines = 2 ∷ [] }

abbrev pub freeze_as_failed : Rec
freeze_as_failed =
    worked_record 0x20001F0 0x2000230 702 9 0x30 (Freeze (record { 0 = 701 }) 0 (failed_plan ∷ [])) (bare_block 0 false ∷ [])

-- 702 inserts a tuple that is marked frozen, without a lock
abbrev pub frozen_tuple : NewTuple
frozen_tuple = record first_tuple { mask = 0x0B02 }

abbrev pub insert_frozen : Rec
insert_frozen = worked_record 0x20001F0 0x2000240 702 10 0x00 (Insert 3 0) (worked_block false frozen_tuple)

-- 702 inserts at line 3, and while it runs its tuple is taken away
abbrev pub insert_by_702 : Rec
insert_by_702 = worked_record 0x20001F0 0x2000240 702 10 0x00 (Insert 3 0) (worked_block false first_tuple)

abbrev pub prune_of_live : Rec
prune_of_live =
    worked_record 0x2000240 0x2000278 0 9 0x10 (Prune (record { 0 = 702 }) 0 [] (3 ∷ []) []) (bare_block 0 false ∷ [])

-- 702 locks the table
abbrev pub worked_lock : LockEntry
worked_lock = record { xid = record { 0 = 702 }; database = 16384; relation = 16385 }

abbrev pub lock_by_702 : Rec
lock_by_702 = worked_record 0x20001F0 0x2000218 702 8 0x00 (HeldLocks (worked_lock ∷ [])) []

abbrev pub locked_log : List Rec
locked_log = lock_by_702 ∷ worked_log

-- and takes the block of both versions away
abbrev pub truncate_of_rows : Rec
truncate_of_rows = worked_record 0x2000218 0x2000250 702 2 0x20 (Truncate 0 worked_table (pos 7)) []

-- the table is cut to its one block, and dropped by 702's commit (XACT_XINFO_HAS_RELFILELOCATORS), without a lock
abbrev pub truncate_unlocked : Rec
truncate_unlocked = worked_record 0x20001F0 0x2000228 702 2 0x20 (Truncate 1 worked_table (pos 7)) []

abbrev pub drop_unlocked : Rec
drop_unlocked = worked_record 0x20001F0 0x2000228 702 1 0x80 (Ended (pos 0) 4 [] (worked_table ∷ [])) []

-- 703 cuts the table under the lock of 702
abbrev pub truncate_by_other : Rec
truncate_by_other = worked_record 0x2000218 0x2000250 703 2 0x20 (Truncate 1 worked_table (pos 7)) []

-- 702 drops the table that it locked, and 703 inserts into a new block of it
abbrev pub drop_by_702 : Rec
drop_by_702 = worked_record 0x2000218 0x2000250 702 1 0x80 (Ended (pos 0) 4 [] (worked_table ∷ [])) []

abbrev pub dropped_log : List Rec
dropped_log = drop_by_702 ∷ locked_log

abbrev pub new_block : RecBlock
new_block = record { id = 0; locator = worked_table; block = 1; will_init = true; image = None; tuples = first_tuple ∷ [] }

abbrev pub insert_after_drop : Rec
insert_after_drop = worked_record 0x2000250 0x20002A0 703 10 0x80 (Insert 1 0) (new_block ∷ [])

-- 702 runs, and an online checkpoint with its redo position there does not write its lock again
abbrev pub running_702 : Rec
running_702 =
    worked_record 0x2000218 0x2000250 0 8 0x10
    (Running 1 0 false (record { 0 = 703 }) (record { 0 = 702 }) (record { 0 = 701 }) (record { 0 = 702 } ∷ []))
    []

abbrev pub running_log : List Rec
running_log = running_702 ∷ locked_log

abbrev pub checkpoint_without_locks : Rec
checkpoint_without_locks = checkpoint_at 0x2000250 0x20002C8 0x10 0x2000218 703

-- each clause is broken alone, so none is empty or follows from the others (several of them in more than one way)
pub record EachBreaks : Type 0 where
  pub births : BreaksOnly Births (insert_by_ended ∷ worked_log)
  pub deleters : BreaksOnly Deleters (delete_by_ended ∷ worked_log)
  pub blocks : BreaksOnly Blocks (anew_again ∷ worked_log)
  pub multixacts : BreaksOnly Multixacts (lock_by_unmade ∷ worked_log)
  pub zero_multixact : BreaksOnly NewMultixacts (multixact_zero ∷ worked_log)
  pub made_again : BreaksOnly NewMultixacts (multixact_again ∷ multixact_once ∷ worked_log)
  pub two_updaters : BreaksOnly NewMultixacts (multixact_of_updaters ∷ worked_log)
  pub redone : BreaksOnly Redone (delete_of_none ∷ worked_log)
  pub transactions : BreaksOnly Transactions (commit_again ∷ worked_log)
  pub apart : BreaksOnly Apart (block_twice ∷ worked_log)
  pub shutdowns : BreaksOnly Shutdowns (shutdown_elsewhere ∷ worked_log)
  pub checkpoint : BreaksOnly CheckpointLocks (checkpoint_alone ∷ worked_log)
  pub renews : BreaksOnly Renews (insert_without_image ∷ worked_checkpoint)
  pub removals : BreaksOnly Removals (prune_of_row ∷ worked_log)
  pub horizon : BreaksOnly Removals (prune_below ∷ worked_log)
  pub frozen : BreaksOnly Removals (freeze_below ∷ worked_log)
  pub marks : BreaksOnly Removals (freeze_as_failed ∷ worked_log)
  pub live : BreaksOnly Removals (prune_of_live ∷ insert_by_702 ∷ worked_log)
  pub born_frozen : BreaksOnly Births (insert_frozen ∷ worked_log)
  pub cut : BreaksOnly Cut (truncate_of_rows ∷ locked_log)
  pub cut_unlocked : BreaksOnly Locks (truncate_unlocked ∷ worked_log)
  pub other_lock : BreaksOnly Locks (truncate_by_other ∷ locked_log)
  pub drop_unlocked : BreaksOnly Locks (drop_unlocked ∷ worked_log)
  pub gone : BreaksOnly Locks (insert_after_drop ∷ dropped_log)
  pub rewritten : BreaksOnly CheckpointLocks (checkpoint_without_locks ∷ running_log)
