-- The access exclusive locks that transactions of the primary hold, as a standby knows them.
-- Sources: standby.c (StandbyAcquireAccessExclusiveLock, StandbyReleaseLocks, StandbyReleaseOldLocks).
use Rattle.std.specs.Prelude.{ℕ, Bool, not, ◌==◌, ◌&&◌, List, [], ◌∷◌, ◌++◌, map, filter, Option, Some, if◌then◌else◌}
use Rattle.pg_types.specs.declared.names.Lsn.{Lsn}
use Rattle.record_fields.specs.declared.entries.LockEntry.{LockEntry}
use Rattle.typed_records.specs.declared.types.Rec.{Rec}
use Rattle.typed_records.specs.declared.types.RecKind.{RecKind}
use Rattle.typed_records.specs.declared.types.RecKind.TheVariants.{Locks}
use Rattle.transaction_model.specs.Transactions.{ends}
use Rattle.xact_redo.specs.TransactionsOf.{kind_of}
use Rattle.recovery_conflict.specs.declared.locks.HeldLock.{HeldLock}

-- the locks that a record of this kind tells (XLOG_STANDBY_LOCK, standbydefs.h)
abbrev pub entries_of : RecKind → List LockEntry
entries_of (Locks entries) = entries
entries_of kind = []

-- an entry of the record that starts here
abbrev pub held_since : Lsn → LockEntry → HeldLock
held_since start entry = record { entry = entry; since = start }

-- a record releases the locks of the transactions that it ends or gives up
abbrev pub keeps : Rec → HeldLock → Bool
keeps rec held = not (ends held.entry.xid.0 rec.head.xid.0 (kind_of rec.head rec.kind))

-- the locks in force after a record, in the order of their entries
unfoldable pub locks_after : Rec → List HeldLock → List HeldLock
locks_after rec held = filter (keeps rec) held ++ map (held_since rec.start) (entries_of rec.kind)

-- a lock is of this relation of this database
abbrev pub is_of : ℕ → ℕ → LockEntry → Bool
is_of database relation entry = (entry.database == database) && (entry.relation == relation)

-- the last lock of a relation
abbrev pub last_of : ℕ → ℕ → List HeldLock → Option HeldLock → Option HeldLock
last_of database relation [] found = found
last_of database relation (held ∷ locks) found =
    last_of database relation locks (if is_of database relation held.entry then Some held else found)
