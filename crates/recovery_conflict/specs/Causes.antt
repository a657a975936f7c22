-- Which record takes away what a scan still has to see, and by what.
-- Sources: standby.c (ResolveRecoveryConflictWithSnapshot, ResolveRecoveryConflictWithLock), procarray.c
-- (GetConflictingVirtualXIDs).
use Rattle.std.specs.Prelude.{ℕ, ◌==◌, Bool, not, ◌&&◌, ◌||◌, nat_le, List, [], ◌∷◌, Option, Some, None, if◌then◌else◌}
use Rattle.std.specs.List.{list_any}
use Rattle.pg_types.specs.declared.names.Lsn.{Lsn}
use Rattle.pg_types.specs.declared.names.Xid.{Xid}
use Rattle.record_fields.specs.declared.entries.LockEntry.{LockEntry}
use Rattle.typed_records.specs.declared.types.RecBlock.{RecBlock}
use Rattle.typed_records.specs.declared.types.Rec.{Rec}
use Rattle.typed_records.specs.declared.types.RecKind.{RecKind}
use Rattle.typed_records.specs.declared.types.RecKind.TheVariants.{Prune, Freeze, Visible}
use Rattle.recovery_conflict.specs.declared.locks.Cause.{Cause}
use Rattle.recovery_conflict.specs.declared.locks.Cause.TheVariants.{Horizon, Lock}
use Rattle.recovery_conflict.specs.Held.{entries_of, is_of}

-- up to which id a record of this kind removes what was deleted, or shows to all what was inserted; 0 for none
abbrev pub horizon_of : RecKind → Xid
horizon_of (Prune horizon catalogue redirected died freed) = horizon
horizon_of (Freeze horizon catalogue plans) = horizon
horizon_of (Visible horizon flags) = horizon
horizon_of kind = record { 0 = 0 }

-- a block of the database, or of the tables that all databases share
abbrev pub is_of_database : ℕ → RecBlock → Bool
is_of_database database block = (block.locator.db == database) || (block.locator.db == 0)

-- the record's horizon reaches the snapshots with this least live id
abbrev pub reaches : ℕ → ℕ → Rec → Bool
reaches database xmin rec =
    not ((horizon_of rec.kind).0 == 0) && nat_le xmin (horizon_of rec.kind).0 && list_any (is_of_database database) rec.blocks

-- the first of these entries that locks the relation
abbrev pub first_lock : Lsn → ℕ → ℕ → List LockEntry → Option Cause
first_lock start database relation [] = None
first_lock start database relation (entry ∷ entries) =
    if is_of database relation entry then Some (Lock start entry.xid) else first_lock start database relation entries

-- why a record cancels a scan of this relation of this database whose snapshot has this least live id, if it does
unfoldable pub cause_of : Rec → ℕ → ℕ → ℕ → Option Cause
cause_of rec database relation xmin =
    if reaches database xmin rec then Some (Horizon rec.start (horizon_of rec.kind))
    else first_lock rec.start database relation (entries_of rec.kind)
