-- When a node stands for the abstract standby, and the law that its steps are then the abstract ones.
use Rattle.std.specs.Prelude.{◌≡◌, ◌⊎◌, ℕ, ◌<◌, false, List, [], ◌∷◌, ◌++◌, length, replicate, Option, None, Some, Ok}
use Rattle.pg_types.specs.declared.names.Lsn.{Lsn}
use Rattle.typed_records.specs.declared.types.Rec.{Rec}
use Rattle.heap_redo.specs.Redone.{table_of}
use Rattle.known_assigned.specs.declared.state.State.TheVariants.{Ready}
use Rattle.record_numbers.specs.Bytes.{TellsBytes}
use Rattle.standby_snapshot.specs.Snapshot.{take_of}
use Rattle.table_schema.specs.Description.{Description, locators}
use Rattle.table_schema.specs.Reading as schema
use Rattle.table_schema.specs.Tables.{file_of}
use Rattle.page_store.specs.Seen.{absent}
use Rattle.transaction_model.specs.Transactions.{IsXmin}
use Rattle.xact_redo.specs.State.{TransactionState}
use Rattle.xact_redo.specs.TransactionsOf.{transactions_of}
use Rattle.recovery_conflict.specs.declared.locks.HeldLock.{HeldLock}
use Rattle.recovery_conflict.specs.Held.{locks_after}
use Rattle.row_model.specs.Conflicts.{AreFree}
use Rattle.row_model.specs.Locks.{is_gone, locks}
use Rattle.row_model.specs.RowSteps.{block_count, view_after}
use Rattle.row_visibility.specs.Sees.{IsAlong, IsAlongFrom}
use Rattle.standby_model.specs.Log.{Stands, link_after}
use Rattle.standby_core.specs.Conflicts.{gone_after}
use Rattle.standby_core.specs.declared.scans.NodeScan.{NodeScan}
use Rattle.standby_core.specs.declared.types.Origin.{Origin}
use Rattle.standby_core.specs.Standby.{Standby, at_origin, described_in, told_to}
use Rattle.session_model.specs.Laws.{Simulates}
use Rattle.session_model.specs.NodeSteps.{NodeStep}
use Rattle.legal_session.specs.AbstractStandby.{AbstractScan, AbstractStandby, IsLegal, Step, World, life_begins, log_origin, position_of}

-- the locks in force after a log, and since when each described table is gone
unfoldable pub locks_along : List Rec → List HeldLock
locks_along [] = []
locks_along (rec ∷ older) = locks_after rec (locks_along older)

unfoldable pub gone_along : Description → List Rec → List (Option Lsn)
gone_along tables [] = replicate (length tables.tables) None
gone_along tables (rec ∷ older) = gone_after rec (locators tables) (gone_along tables older)

-- an open scan of the node: its table was neither dropped nor locked at the opening; its snapshot was taken then, when the
-- running transactions were known, the parents that it asks for are kept since, and its blocks were counted; each block
-- that it was given had another one behind it; and as long as it is not cancelled, no record conflicted with it
pub record StandsForScan (w : World) (life : List Rec) (now : TransactionState) (one : NodeScan) (scan : AbstractScan) : Type 0 where
  pub id : one.id ≡ scan.id
  pub table : one.scan.table ≡ scan.table
  pub described : table_of (locators w.tables) (file_of w.tables scan.table) ≡ Some scan.table
  pub later : List Rec
  pub opened : life ≡ later ++ scan.opened
  pub was : TransactionState
  pub along : IsAlong scan.opened was
  pub ready : was.known.mode ≡ Ready
  pub snapshot : one.scan.snapshot ≡ take_of was.known
  pub since : IsAlongFrom was (take_of was.known).xmin later now
  pub xmin : one.scan.snapshot.xmin ≡ scan.xmin
  pub least : IsXmin (log_origin w).transactions.at scan.xmin (transactions_of scan.opened)
  pub there : is_gone (file_of w.tables scan.table) scan.opened ≡ false
  pub unlocked : locks (log_origin w) (file_of w.tables scan.table) scan.opened ≡ []
  pub blocks : one.scan.blocks ≡ block_count (log_origin w) (file_of w.tables scan.table) scan.opened
  pub cause : one.cause ≡ scan.cause
  pub free : scan.cause ≡ None → AreFree (log_origin w) (file_of w.tables scan.table) scan.xmin later
  pub given : one.scan.given ≡ scan.given
  pub inside : (scan.given ≡ 0) ⊎ (scan.given < one.scan.blocks)

-- one for one
abbrev pub StandForScans : World → List Rec → TransactionState → List NodeScan → List AbstractScan → Type 0
StandForScans w life now [] [] = Unit {0}
StandForScans w life now [] (scan ∷ scans) = ⊥
StandForScans w life now (one ∷ others) [] = ⊥
StandForScans w life now (one ∷ others) (scan ∷ scans) =
    StandsForScan w life now one scan × StandForScans w life now others scans

-- a node whose life began here: the log that it replayed stands, its blocks are those that redo of the log leaves, and its
-- state of transactions is one that the log leads to
pub record Represents (w : World) (start : ℕ) (node : Standby) (s : AbstractStandby) : Type 0 where
  pub begins : s.start ≡ start
  pub stands : Stands w.told (described_in w.tables) start s.life
  pub tables : node.tables ≡ w.tables
  pub told : told_to node w.told.byte ≡ w.told
  pub at : node.at.0 ≡ position_of s
  pub prev : node.prev ≡ link_after s.life
  pub min : node.min.0 ≡ s.min
  pub awaited : node.awaited ≡ s.awaited
  pub blocks : view_after (log_origin w) (locators w.tables) s.life ≡ Ok node.blocks
  pub transactions : IsAlong s.life node.transactions
  pub scans : StandForScans w s.life node.transactions node.scans s.scans
  pub next_id : node.next_id ≡ s.next_id
  pub held : node.locks ≡ locks_along s.life
  pub gone : node.gone ≡ gone_along w.tables s.life

-- over a legal log of bytes, in segments that have a size, with tables of a description that is read, each step of a node is
-- one of the abstract standby that it stands for, with the same reply
abbrev pub NodeSimulates : Type 0
NodeSimulates =
    (w : World) (start : ℕ) (text : List ℕ) → 0 < w.told.segsize → TellsBytes w.told → schema.Answers text (Ok w.tables) → IsLegal w start
    → Simulates (Represents w start) (NodeStep w.told.byte) (Step w)

-- what a node with these tables lives in whose log begins at this origin, where it is told by these bytes
abbrev pub world_at : Description → Origin → (ℕ → Option ℕ) → (ℕ → ℕ) → World
world_at tables origin byte top = record {
  tables = tables;
  told = record { byte = byte; owner = λ at. 1; system = origin.system; segsize = origin.segsize };
  top = top;
}

-- a node whose life begins, with no blocks, stands for an abstract standby whose life begins
abbrev pub BeginsSo : Type 0
BeginsSo =
    (tables : Description) (origin : Origin) (byte : ℕ → Option ℕ) (top : ℕ → ℕ)
    → Represents (world_at tables origin byte top) origin.redo.0 (at_origin tables origin (λ table block. absent)) (life_begins origin.redo)
