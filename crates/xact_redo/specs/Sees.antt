-- Which tuples a snapshot sees that is taken of the state of transactions (procarray.c, GetSnapshotData;
-- heapam_visibility.c, HeapTupleSatisfiesMVCC).
use Rattle.std.specs.Prelude.{ℕ, Bool, List, Result}
use Rattle.pg_types.specs.declared.status.Unknown.{Unknown}
use Rattle.standby_snapshot.specs.Snapshot.{SnapshotData, take_of}
use Rattle.subtrans.specs.Parents.{topmost_of}
use Rattle.tuple_visibility.specs.Visible.{visible_of}
use Rattle.xact_redo.specs.State.{TransactionState}

-- whether a snapshot sees a tuple, by the statuses, the parents and the multixacts of this state
abbrev pub sees_by : SnapshotData → TransactionState → List ℕ → Result Bool Unknown
sees_by snapshot state tuple = visible_of tuple snapshot (topmost_of state.parents) state.statuses state.updaters

-- whether a snapshot of this state sees a tuple
abbrev pub sees : TransactionState → List ℕ → Result Bool Unknown
sees state tuple = sees_by (take_of state.known) state tuple
