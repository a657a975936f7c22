-- What a record does to the open scans, and to the tables that can be scanned (standby.c,
-- ResolveRecoveryConflictWithSnapshot and ResolveRecoveryConflictWithLock; xact.c, xact_redo_commit).
use Rattle.std.specs.Prelude.{ℕ, Bool, not, ◌&&◌, List, [], ◌∷◌, filter, get_or, length, map, set, Option, Some, None, is_some, unwrap_or, if◌then◌else◌}
use Rattle.pg_types.specs.declared.names.Locator.{Locator}
use Rattle.pg_types.specs.declared.names.Lsn.{Lsn}
use Rattle.wal_record.specs.declared.types.RecordHead.{RecordHead}
use Rattle.typed_records.specs.declared.types.Rec.{Rec}
use Rattle.typed_records.specs.declared.types.RecKind.{RecKind}
use Rattle.typed_records.specs.declared.types.RecKind.TheVariants.{Ended}
use Rattle.wal_bodies.specs.Typed.{is_commit}
use Rattle.heap_redo.specs.Redone.{table_of}
use Rattle.table_schema.specs.Description.{Description}
use Rattle.table_schema.specs.Tables.{table_with}
use Rattle.recovery_conflict.specs.declared.locks.Cause.{Cause}
use Rattle.recovery_conflict.specs.Causes.{cause_of}
use Rattle.standby_core.specs.declared.scans.NodeScan.{NodeScan}

-- the oid of the table with this number (pg_class), which locks name
abbrev pub oid_of : Description → ℕ → ℕ
oid_of tables number = (table_with tables number).oid

-- why a record cancels an open scan, if it does
abbrev pub cause_for : Rec → Description → NodeScan → Option Cause
cause_for rec tables one = cause_of rec tables.database (oid_of tables one.scan.table) one.scan.snapshot.xmin

-- the first cause stays
abbrev pub first_cause : Option Cause → Option Cause → Option Cause
first_cause None found = found
first_cause (Some cause) found = Some cause

-- a scan after a record, which is open until its next page is asked for
unfoldable pub cancelled_one : Rec → Description → NodeScan → NodeScan
cancelled_one rec tables one = record one { cause = first_cause one.cause (cause_for rec tables one) }

-- the open scans after a record
abbrev pub cancelled_by : Rec → Description → List NodeScan → List NodeScan
cancelled_by rec tables scans = map (cancelled_one rec tables) scans

-- a record is the one that cancels a scan
unfoldable pub is_newly_cancelled : Rec → Description → NodeScan → Bool
is_newly_cancelled rec tables one = not (is_some one.cause) && is_some (cause_for rec tables one)

-- so many scans are cancelled by a record
abbrev pub newly_cancelled : Rec → Description → List NodeScan → ℕ
newly_cancelled rec tables scans = length (filter (is_newly_cancelled rec tables) scans)

-- the files that a record of this kind drops: those of a commit
abbrev pub dropped_files : RecordHead → RecKind → List Locator
dropped_files head (Ended time xinfo xids files) = if is_commit head then files else []
dropped_files head kind = []

-- the table is gone from here on, unless it was before
abbrev pub mark_gone : Lsn → Option ℕ → List (Option Lsn) → List (Option Lsn)
mark_gone start None gone = gone
mark_gone start (Some table) gone = set gone table (Some (unwrap_or (get_or gone table None) start))

-- so are the tables that have these files
abbrev pub mark_files : List Locator → Lsn → List Locator → List (Option Lsn) → List (Option Lsn)
mark_files known start [] gone = gone
mark_files known start (file ∷ files) gone = mark_files known start files (mark_gone start (table_of known file) gone)

-- since when each described table is gone after a record
unfoldable pub gone_after : Rec → List Locator → List (Option Lsn) → List (Option Lsn)
gone_after rec known gone = mark_files known rec.start (dropped_files rec.head rec.kind) gone
