-- The blocks of a typed record.
use Rattle.std.specs.Prelude.{ℕ, zero, suc, ◌+◌, ◌==◌, List, [], ◌∷◌, ◌++◌, Option, Some, None, option_map, if◌then◌else◌}
use Rattle.wal_record.specs.Record.{Image, Block, Record}
use Rattle.typed_records.specs.declared.types.RecImage.{RecImage}
use Rattle.typed_records.specs.declared.types.NewTuple.{NewTuple}
use Rattle.typed_records.specs.declared.types.RecBlock.{RecBlock}
use Rattle.typed_records.specs.Fields.{main_block}

-- an image, by what the typed form keeps of it
abbrev pub image_of : Image → RecImage
image_of image = record { apply = image.apply; hole_at = image.hole_at; bytes = image.bytes }

-- a block with these tuples
abbrev pub block_with : List NewTuple → Block → RecBlock
block_with tuples block = record {
  id = block.id;
  locator = block.locator;
  block = block.block;
  will_init = block.will_init;
  image = option_map image_of block.image;
  tuples = tuples;
}

-- the block with these tuples, if it is there
abbrev pub listed_block : List NewTuple → Option Block → List RecBlock
listed_block tuples None = []
listed_block tuples (Some block) = block_with tuples block ∷ []

-- the n blocks from this id on that are there, without tuples
unfoldable pub blocks_from : Record → ℕ → ℕ → List RecBlock
blocks_from rec id zero = []
blocks_from rec id (suc n) = listed_block [] (main_block id rec) ++ blocks_from rec (id + 1) n

-- the blocks whose id is below this number; the tuples are those of block 0
unfoldable pub blocks_of : ℕ → List NewTuple → Record → List RecBlock
blocks_of zero tuples rec = []
blocks_of (suc n) tuples rec = listed_block tuples (main_block 0 rec) ++ blocks_from rec 1 n

-- the number of the block with this id, if it is there
abbrev pub number_of : ℕ → List RecBlock → Option ℕ
number_of id [] = None
number_of id (block ∷ blocks) = if block.id == id then Some block.block else number_of id blocks
