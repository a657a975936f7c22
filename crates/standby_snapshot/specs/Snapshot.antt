-- A snapshot taken in recovery (PostgreSQL's procarray.c, GetSnapshotData, and snapmgr.c, XidInMVCCSnapshot).
use Rattle.std.specs.Prelude.{ℕ, ◌+◌, min, Bool, true, false, List, ◌==◌, ◌&&◌, not, map, nat_lt, nat_le, slice_get, unwrap_or, if◌then◌else◌}
use Rattle.std.specs.List.{list_any}
use Rattle.pg_types.specs.declared.names.Xid.{Xid}
use Rattle.known_assigned.specs.Known.{Known}
use Rattle.standby_snapshot.specs.declared.Snapshot.{Snapshot}

-- a snapshot in numbers (SnapshotData, snapshot.h)
pub record SnapshotData : Type 0 where
  pub xmin : ℕ
  pub xmax : ℕ
  pub running : List ℕ
  pub overflowed : Bool

abbrev pub in_numbers : Snapshot → SnapshotData
in_numbers s = record {
  xmin = s.xmin.0;
  xmax = s.xmax.0;
  running = map (λ (x : Xid). x.0) s.running;
  overflowed = s.overflowed;
}

-- the id behind the latest completed one
abbrev pub xmax_of : Known → ℕ
xmax_of k = k.latest + 1

-- the least id that runs, but at most xmax
abbrev pub xmin_of : Known → ℕ
xmin_of k = min (unwrap_or (slice_get k.xids 0) (xmax_of k)) (xmax_of k)

-- the snapshot of what is known of running transactions, in rising order; ids of subtransactions may be
-- missing where some from xmin on were known by their parent alone (GetSnapshotData)
unfoldable pub take_of : Known → SnapshotData
take_of k = record {
  xmin = xmin_of k;
  xmax = xmax_of k;
  running = k.xids;
  overflowed = nat_le (xmin_of k) k.overflowed;
}

-- whether an id is one of these
abbrev pub is_among : List ℕ → ℕ → Bool
is_among xids x = list_any (λ y. y == x) xids

-- whether x was running, by its topmost parent where the ids of some subtransactions were missing
abbrev pub is_running : SnapshotData → (ℕ → ℕ) → ℕ → Bool
is_running snapshot topmost x =
    if snapshot.overflowed
    then not (nat_lt (topmost x) snapshot.xmin) && is_among snapshot.running (topmost x)
    else is_among snapshot.running x

-- whether x counts as still in progress: no id below xmin, each one from xmax on, and between them those
-- that were running (XidInMVCCSnapshot)
unfoldable pub in_progress : SnapshotData → (ℕ → ℕ) → ℕ → Bool
in_progress snapshot topmost x =
    if nat_lt x snapshot.xmin then false
    else if nat_le snapshot.xmax x then true
    else is_running snapshot topmost x
