-- The access exclusive locks of a table that are in force after a log, and parts of a log.
-- Sources: standby.c (LogAccessExclusiveLocks, StandbyReleaseLocks, StandbyReleaseOldLocks), storage/lmgr/README.
use Rattle.std.specs.Prelude.{◌≡◌, ℕ, Bool, true, false, not, ◌==◌, ◌&&◌, nat_lt, List, [], ◌∷◌, ◌++◌, map, filter, reverse, if◌then◌else◌}
use Rattle.std.specs.List.{list_any}
use Rattle.pg_types.specs.declared.names.Locator.{Locator}
use Rattle.typed_records.specs.declared.types.RecBlock.{RecBlock}
use Rattle.typed_records.specs.declared.types.Rec.{Rec}
use Rattle.typed_records.specs.declared.types.RecKind.{RecKind}
use Rattle.typed_records.specs.declared.types.RecKind.TheVariants.{Ended}
use Rattle.wal_bodies.specs.Typed.{is_commit}
use Rattle.wal_record.specs.declared.types.RecordHead.{RecordHead}
use Rattle.record_fields.specs.declared.entries.LockEntry.{LockEntry}
use Rattle.pg_types.specs.Locators.{same_locator}
use Rattle.heap_redo.specs.Redone.{is_left}
use Rattle.transaction_model.specs.Transactions.{Kind, Commit, Abort, Assignment, Running, Shutdown, Online, Other, ends}
use Rattle.xact_redo.specs.TransactionsOf.{kind_of}
use Rattle.recovery_conflict.specs.Held.{entries_of, is_of}
use Rattle.row_model.specs.Origins.{LogOrigin, IsLive, IsSameTree}

-- the records that start at a position or past it
unfoldable pub since : ℕ → List Rec → List Rec
since redo [] = []
since redo (rec ∷ older) = if nat_lt rec.start.0 redo then [] else rec ∷ since redo older

abbrev pub is_shutdown_checkpoint : Kind → Bool
is_shutdown_checkpoint (Shutdown next) = true
is_shutdown_checkpoint (Commit subs) = false
is_shutdown_checkpoint (Abort subs) = false
is_shutdown_checkpoint (Assignment top subs) = false
is_shutdown_checkpoint (Running head xids) = false
is_shutdown_checkpoint (Online redo next) = false
is_shutdown_checkpoint Other = false

abbrev pub is_running_record : Kind → Bool
is_running_record (Running head xids) = true
is_running_record (Commit subs) = false
is_running_record (Abort subs) = false
is_running_record (Assignment top subs) = false
is_running_record (Shutdown next) = false
is_running_record (Online redo next) = false
is_running_record Other = false

-- the records behind the last shutdown checkpoint
unfoldable pub since_shutdown : List Rec → List Rec
since_shutdown [] = []
since_shutdown (rec ∷ older) = if is_shutdown_checkpoint (kind_of rec.head rec.kind) then [] else rec ∷ since_shutdown older

-- the log up to its last running record
unfoldable pub up_to_running : List Rec → List Rec
up_to_running [] = []
up_to_running (rec ∷ older) = if is_running_record (kind_of rec.head rec.kind) then rec ∷ older else up_to_running older

-- a lock that a transaction holds, and the start of the record that says so
pub record HeldLock : Type 0 where
  pub xid : ℕ
  pub since : ℕ

abbrev pub held_since : ℕ → ℕ → HeldLock
held_since start xid = record { xid = xid; since = start }

-- the transactions that hold the table's lock by a record of this kind: an entry names the table's database and oid
-- (xl_standby_lock, standbydefs.h)
abbrev pub entries_in : LogOrigin → Locator → RecKind → List ℕ
entries_in o table kind =
    map (λ (entry : LockEntry). entry.xid.0) (filter (is_of table.db (o.tables table).oid) (entries_of kind))

-- a record releases a lock where it ends or gives up its transaction
abbrev pub releases : Rec → HeldLock → Bool
releases rec held = ends held.xid rec.head.xid.0 (kind_of rec.head rec.kind)

-- the table's locks in force after a log, the last one first
unfoldable pub locks : LogOrigin → Locator → List Rec → List HeldLock
locks o table [] = []
locks o table (rec ∷ older) =
    reverse (map (held_since rec.start.0) (entries_in o table rec.kind))
    ++ filter (λ held. not (releases rec held)) (locks o table older)

abbrev pub is_held_by : LogOrigin → Locator → List Rec → ℕ → Bool
is_held_by o table log x = list_any (λ (held : HeldLock). held.xid == x) (locks o table log)

-- x acts under a lock of the table: a live transaction of its tree holds one in force, with no shutdown checkpoint
-- since its entry (that releases only ids below its next one, so a later id's entry would outlast it)
pub record UnderLock (o : LogOrigin) (table : Locator) (older : List Rec) (x : ℕ) : Type 0 where
  pub holder : ℕ
  pub held : is_held_by o table (since_shutdown older) holder ≡ true
  pub live : IsLive o older holder
  pub own : IsSameTree o holder x

-- the end of a transaction drops the table: a commit that lists its file (xl_xact_relfilelocators, xact.h)
abbrev pub drops_by : Locator → RecordHead → RecKind → Bool
drops_by table head (Ended time xinfo xids files) = is_commit head && list_any (same_locator table) files
drops_by table head kind = false

abbrev pub drops : Locator → Rec → Bool
drops table rec = drops_by table rec.head rec.kind

-- the table was dropped
abbrev pub is_gone : Locator → List Rec → Bool
is_gone table log = list_any (drops table) log

-- a record changes a block of the table, or this one
abbrev pub changes_of : Locator → Rec → RecBlock → Bool
changes_of table rec block = same_locator table block.locator && not (is_left rec block)

abbrev pub changes_table : Locator → Rec → Bool
changes_table table rec = list_any (changes_of table rec) rec.blocks

abbrev pub changes_block : Locator → ℕ → Rec → Bool
changes_block table number rec =
    list_any (λ (block : RecBlock). changes_of table rec block && (block.block == number)) rec.blocks
