-- A node as contracts see it.
use Rattle.std.specs.Prelude.{ℕ, List, [], length, replicate, Option, Some, None, is_some}
use Rattle.pg_types.specs.declared.names.Lsn.{Lsn}
use Rattle.wal_record.specs.declared.types.PrevRule.{PrevRule}
use Rattle.wal_record.specs.declared.types.PrevRule.TheVariants.{Below}
use Rattle.wal_reader.specs.Kept.{Kept}
use Rattle.wal_reader.specs.Told.{Told}
use Rattle.page_store.specs.Seen.{View}
use Rattle.table_schema.specs.Description.{Description, locators}
use Rattle.xact_redo.specs.State.{TransactionState, before_records}
use Rattle.standby_model.specs.Log.{Described}
use Rattle.recovery_conflict.specs.declared.locks.HeldLock.{HeldLock}
use Rattle.standby_core.specs.declared.scans.NodeScan.{NodeScan}
use Rattle.standby_core.specs.declared.types.NodeStatus.{NodeStatus}
use Rattle.standby_core.specs.declared.types.Origin.{Origin}

pub record Standby : Type 0 where
  -- the described database and its tables
  pub tables : Description
  -- the log's system identifier, and the size of its segments
  pub system : ℕ
  pub segsize : ℕ
  -- the position of the next record, and what its link to the record before has to be
  pub at : Lsn
  pub prev : PrevRule
  -- the position to be reached, and where the backup began whose end is still to come
  pub min : Lsn
  pub awaited : Option Lsn
  -- the blocks of the described tables, and what is known of transactions
  pub blocks : View
  pub transactions : TransactionState
  -- the open scans, in the order of their opening, and the id of the next one
  pub scans : List NodeScan
  pub next_id : ℕ
  -- the access exclusive locks in force, and of each described table the start of the record that dropped its file
  pub locks : List HeldLock
  pub gone : List (Option Lsn)
  -- what is kept of the log
  pub kept : Kept

-- a node as its life begins at an origin: the first record's link is below its own position, and the end of the
-- backup that began at the redo position is awaited (backup_label, xlogrecovery.c)
unfoldable pub at_origin : Description → Origin → View → Standby
at_origin tables origin blocks = record {
  tables = tables;
  system = origin.system;
  segsize = origin.segsize;
  at = origin.redo;
  prev = Below;
  min = origin.redo;
  awaited = Some origin.redo;
  blocks = blocks;
  transactions = before_records;
  scans = [];
  next_id = 1;
  locks = [];
  gone = replicate (length tables.tables) None;
  kept = record { from = 0; bytes = [] };
}

-- the log as it is told to the node
abbrev pub told_to : Standby → (ℕ → Option ℕ) → Told
told_to node byte = record { byte = byte; owner = λ at. 1; system = node.system; segsize = node.segsize }

-- what a description says to the log's reader: the database, and the files of its tables
abbrev pub described_in : Description → Described
described_in tables = record { database = tables.database; files = locators tables }

-- what is described to the node
abbrev pub described_to : Standby → Described
described_to node = described_in node.tables

-- where a node stands, on the first timeline
unfoldable pub node_status : Standby → NodeStatus
node_status node = record {
  tli = record { 0 = 1 };
  at = node.at;
  min = node.min;
  awaited = is_some node.awaited;
  state = node.transactions.known.mode;
  scans = length node.scans;
}
