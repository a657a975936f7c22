-- The node's own parts as contracts see them.
use Rattle.std.specs.Prelude.{ℕ, Option, IfSome, Result}
use Rattle.page_store.specs.Content.{content}
use Rattle.page_store.specs.Seen.{view_of}
use Rattle.wal_reader.specs.Kept.{AreTold}
use Rattle.xact_redo.specs.State.{transactions}
use Rattle.standby_core.specs.declared.node.Node.{Node}
use Rattle.standby_core.specs.declared.types.NodeFault.{NodeFault}
use Rattle.standby_core.specs.declared.types.Replayed.{Replayed}
use Rattle.standby_model.specs.Log.{record_at}
use Rattle.standby_core.specs.Standby.{Standby, described_to, told_to}
use Rattle.standby_core.specs.Replay.{Replays}

unfoldable pub standby : Node → Standby
standby node = record {
  tables = node.tables;
  system = node.reader.source.system;
  segsize = node.segsize;
  at = node.reader.at;
  prev = node.reader.prev;
  min = node.min;
  awaited = node.awaited;
  blocks = view_of (content node.pool);
  transactions = transactions node.state;
  scans = node.scans.open.items;
  next_id = node.scans.next_id;
  locks = node.locks.locks;
  gone = node.gone.items;
  kept = node.reader.source.kept;
}

-- where the log's bytes are told, and what the node keeps of them is among them, the answer is that of the record at
-- the node's position; and what it keeps afterwards is among them too
abbrev pub ReplaysTold : Option (ℕ → Option ℕ) → Result Replayed NodeFault → Standby → Standby → Type 0
ReplaysTold told result old new =
    IfSome told (λ byte. AreTold byte old.kept
    → AreTold byte new.kept × Replays result old new (record_at (told_to old byte) (described_to old) old.at.0 old.prev))
