-- A record as contracts see it: lists and numbers (xlogreader.h, DecodedXLogRecord).
use Rattle.std.specs.Prelude.{◌≡◌, ℕ, ◌≤◌, Bool, List, [], ◌∷◌, Option, Some, None, ◌==◌, if◌then◌else◌}
use Rattle.pg_types.specs.declared.names.Locator.{Locator}
use Rattle.wal_record.specs.declared.types.RecordHead.{RecordHead}

-- a page without its hole
pub record Image : Type 0 where
  pub apply : Bool
  pub hole_at : ℕ
  pub bytes : List ℕ

-- a block that the record refers to, by its id in the record
pub record Block : Type 0 where
  pub id : ℕ
  pub locator : Locator
  pub fork : ℕ
  pub block : ℕ
  pub will_init : Bool
  pub image : Option Image
  pub payload : List ℕ

-- the header, the blocks in the order of their ids, and the main data
pub record Record : Type 0 where
  pub head : RecordHead
  pub blocks : List Block
  pub main : List ℕ

-- the block with this id
abbrev pub block_by_id : ℕ → List Block → Option Block
block_by_id id [] = None
block_by_id id (block ∷ blocks) = if block.id == id then Some block else block_by_id id blocks

-- each block's id is below this number
abbrev pub AreBelow : ℕ → List Block → Type 0
AreBelow ids blocks = (id : ℕ) → ids ≤ id → block_by_id id blocks ≡ None
