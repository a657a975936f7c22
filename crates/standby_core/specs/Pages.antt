-- The open scans of a node by their places, and of what a node they are given pages.
use Rattle.std.specs.Prelude.{◌≡◌, ℕ, ◌<◌, ◌==◌, Bool, All, List, length}
use Rattle.page_store.specs.Seen.{View}
use Rattle.table_schema.specs.Description.{Description}
use Rattle.xact_redo.specs.State.{TransactionState}
use Rattle.standby_core.specs.declared.scans.NodeScan.{NodeScan}
use Rattle.standby_core.specs.Standby.{Standby}

abbrev pub has_id : ℕ → NodeScan → Bool
has_id id one = one.id == id

-- the tables of all scans are described
abbrev pub AreDescribed : Description → List NodeScan → Type 0
AreDescribed tables scans = All (λ (one : NodeScan). one.scan.table < length tables.tables) scans

-- these are a node's open scans, and what they read
pub record ReadsFrom (node : Standby) (scans : List NodeScan) (tables : Description) (blocks : View) (transactions : TransactionState) : Type 0 where
  pub open_scans : node.scans ≡ scans
  pub described : node.tables ≡ tables
  pub blocks_are : node.blocks ≡ blocks
  pub known : node.transactions ≡ transactions

-- the node with these open scans
abbrev pub with_scans : Standby → List NodeScan → Standby
with_scans node scans = record node { scans = scans }
