-- Which parents of subtransactions a node keeps (subtrans.c, TruncateSUBTRANS; procarray.c,
-- GetOldestTransactionIdConsideredRunning).
use Rattle.std.specs.Prelude.{ℕ, List, [], ◌∷◌, min, if◌then◌else◌}
use Rattle.typed_records.specs.declared.types.Rec.{Rec}
use Rattle.standby_snapshot.specs.Snapshot.{xmin_of}
use Rattle.xact_redo.specs.State.{TransactionState, ends_ids, forgetting}
use Rattle.standby_core.specs.declared.scans.NodeScan.{NodeScan}

-- the least of the xmins of the open scans, and at most this id
abbrev pub least_xmin : ℕ → List NodeScan → ℕ
least_xmin most [] = most
least_xmin most (one ∷ scans) = least_xmin (min most one.scan.snapshot.xmin) scans

-- the least id of which a snapshot may ask whether it is in progress: no snapshot that is taken from here on has a lower
-- xmin, and no open scan
abbrev pub oldest_asked : TransactionState → List NodeScan → ℕ
oldest_asked state scans = least_xmin (xmin_of state.known) scans

-- after a record that ends ids the parents of the subtransactions below that id are forgotten
unfoldable pub parents_kept : Rec → List NodeScan → TransactionState → TransactionState
parents_kept rec scans state =
    if ends_ids rec.head rec.kind then forgetting (oldest_asked state scans) state else state
