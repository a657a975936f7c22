-- Which tuples a snapshot sees (PostgreSQL's heapam_visibility.c, HeapTupleSatisfiesMVCC; htup_details.h).
use Rattle.std.specs.Prelude.{ℕ, Bool, true, false, List, Option, None, Some, Result, Ok, Err, not, ◌&&◌, ◌||◌, ◌==◌, if◌then◌else◌, bit_and}
use Rattle.pg_types.specs.declared.names.Xid.{Xid}
use Rattle.pg_types.specs.declared.status.Status.{Status}
use Rattle.pg_types.specs.declared.status.Status.TheVariants.{None as Unset, Committed, Aborted, Sub}
use Rattle.pg_types.specs.declared.status.Unknown.{Unknown}
use Rattle.standby_snapshot.specs.Snapshot.{SnapshotData, in_progress}
use Rattle.heap_tuple.specs.declared.tuple_view.MaxOf.{MaxOf}
use Rattle.heap_tuple.specs.declared.tuple_view.MaxOf.TheVariants.{None as NoDeleter, Xid as DeletedBy, Multi}
use Rattle.pg_types.specs.Numbers.{has_bits}
use Rattle.heap_tuple.specs.Tuple.{xmin_of, infomask_of, max_of}

-- whether a status says committed; a sub-committed one does not
abbrev pub is_committed : Status → Bool
is_committed Unset = false
is_committed Committed = true
is_committed Aborted = false
is_committed Sub = false

-- whether the snapshot counts x as committed: it ended before the snapshot, and a mark or the log says that it committed
abbrev pub counts : SnapshotData → (ℕ → ℕ) → (ℕ → Status) → Bool → ℕ → Bool
counts snapshot topmost statuses marked x =
    not (in_progress snapshot topmost x) && (marked || is_committed (statuses x))

-- the two marks of xmin together: committed (0x0100), invalid (0x0200), frozen (both)
abbrev pub xmin_marks : List ℕ → ℕ
xmin_marks tuple = bit_and (infomask_of tuple) 0x0300

-- whether the inserter counts: always where the tuple is frozen or the id is the bootstrap's or the frozen one
unfoldable pub inserter_counts : List ℕ → SnapshotData → (ℕ → ℕ) → (ℕ → Status) → Bool
inserter_counts tuple snapshot topmost statuses =
    (xmin_marks tuple == 0x0300)
    || (xmin_of tuple == 1)
    || (xmin_of tuple == 2)
    || (not (xmin_of tuple == 0)
    && not (xmin_marks tuple == 0x0200)
    && counts snapshot topmost statuses (xmin_marks tuple == 0x0100) (xmin_of tuple))

-- the deleter: none where xmax is marked invalid (0x0800), is 0 or is only a lock
unfoldable pub deleter_of : List ℕ → MaxOf
deleter_of tuple = if has_bits (infomask_of tuple) 0x0800 then NoDeleter else max_of tuple

-- whether the updater of a multixact counts, for which the tuple has no mark; id is that of the multixact
abbrev pub updater_counts : SnapshotData → (ℕ → ℕ) → (ℕ → Status) → ℕ → Option (Option Xid) → Result Bool Unknown
updater_counts snapshot topmost statuses id None = Err (record { id = id })
updater_counts snapshot topmost statuses id (Some None) = Ok false
updater_counts snapshot topmost statuses id (Some (Some x)) = Ok (counts snapshot topmost statuses false x.0)

-- whether the deleter counts; marked is the mark "xmax committed"
abbrev pub deleter_counts : SnapshotData → (ℕ → ℕ) → (ℕ → Status) → (ℕ → Option (Option Xid)) → Bool → MaxOf → Result Bool Unknown
deleter_counts snapshot topmost statuses updaters marked NoDeleter = Ok false
deleter_counts snapshot topmost statuses updaters marked (DeletedBy x) = Ok (counts snapshot topmost statuses marked x.0)
deleter_counts snapshot topmost statuses updaters marked (Multi id) = updater_counts snapshot topmost statuses id (updaters id)

-- the tuple is seen where its deleter does not count
abbrev pub unless_deleted : Result Bool Unknown → Result Bool Unknown
unless_deleted (Ok gone) = Ok (not gone)
unless_deleted (Err unknown) = Err unknown

-- whether the snapshot sees the tuple: the inserter counts and no deleter counts. topmost tells a
-- subtransaction's topmost parent, statuses the status of an id, updaters the updater of a multixact,
-- if there is such a multixact and if it has one
unfoldable pub visible_of : List ℕ → SnapshotData → (ℕ → ℕ) → (ℕ → Status) → (ℕ → Option (Option Xid)) → Result Bool Unknown
visible_of tuple snapshot topmost statuses updaters =
    if inserter_counts tuple snapshot topmost statuses
    then unless_deleted (deleter_counts snapshot topmost statuses updaters (has_bits (infomask_of tuple) 0x0400) (deleter_of tuple))
    else Ok false
