-- Which records take away what a scan of a standby still has to see.
-- Sources: standby.c (ResolveRecoveryConflictWithSnapshot, ResolveRecoveryConflictWithLock), procarray.c
-- (GetConflictingVirtualXIDs).
use Rattle.std.specs.Prelude.{◌≡◌, ℕ, Bool, false, List, All, is_some}
use Rattle.pg_types.specs.declared.names.Locator.{Locator}
use Rattle.typed_records.specs.declared.types.Rec.{Rec}
use Rattle.recovery_conflict.specs.Causes.{cause_of}
use Rattle.row_model.specs.Origins.{LogOrigin}

-- a record conflicts with a scan of the table whose snapshot has this least live id
abbrev pub conflicts : LogOrigin → Locator → ℕ → Rec → Bool
conflicts o table xmin rec = is_some (cause_of rec table.db (o.tables table).oid xmin)

-- no record of these conflicts
abbrev pub AreFree : LogOrigin → Locator → ℕ → List Rec → Type 0
AreFree o table xmin log = All (λ (rec : Rec). conflicts o table xmin rec ≡ false) log
