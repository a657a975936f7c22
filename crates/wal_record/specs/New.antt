-- The record that a new record is, and its spelling (XLogRecordAssemble, xloginsert.c).
use Rattle.std.specs.Prelude.{◌≡◌, ℕ, ◌+◌, ◌==◌, ◌<◌, ◌≤◌, ◌^◌, Bool, true, false, ◌&&◌, nat_lt, nat_le, IsTrue, List, [], ◌∷◌, ◌++◌, length, map, All, Option, Some, None, option_map, is_some, IfSome, Ok, if◌then◌else◌}
use Rattle.std.specs.List.{flat_map}
use Rattle.pg_types.specs.declared.names.Locator.{Locator}
use Rattle.wal_record.specs.declared.new.NewRecord.{NewRecord}
use Rattle.wal_record.specs.declared.new.NewBlock.{NewBlock}
use Rattle.wal_record.specs.declared.new.NewImage.{NewImage}
use Rattle.wal_record.specs.declared.types.PrevRule.{PrevRule}
use Rattle.wal_record.specs.declared.parts.Part.{Part}
use Rattle.wal_record.specs.declared.parts.Part.TheVariants as part
use Rattle.wal_record.specs.declared.parts.BlockHeader.{BlockHeader}
use Rattle.wal_record.specs.declared.parts.ImageHeader.{ImageHeader}
use Rattle.wal_record.specs.Record.{Image, Block, Record}
use Rattle.wal_record.specs.Decoded.{is_unknown_manager, may_link, decoded}
use Rattle.pg_types.specs.Bytes.{AreBytes}
use Rattle.wal_record.specs.Spelling.{IsLocator, Spelling, spelled}
use Rattle.pg_types.specs.Locators.{same_locator}

-- one number for a flag that is set, and none for another
abbrev pub flag : Bool → ℕ → ℕ
flag set worth = if set then worth else 0

-- the header of an image: bit 1 for a hole, which a whole page has not, and bit 2 for one to be applied
abbrev pub image_header_of : NewImage → ImageHeader
image_header_of image = record {
  length = length image.bytes;
  hole_at = image.hole_at;
  info = flag (nat_lt (length image.bytes) 8192) 1 + flag image.apply 2;
}

-- the relation is that of the block before
abbrev pub is_same_relation : Option Locator → Locator → Bool
is_same_relation None locator = false
is_same_relation (Some before) locator = same_locator before locator

-- the fork, and a flag each for an image, data, a page made anew, and the relation of the block before
abbrev pub flags_of : Bool → NewBlock → ℕ
flags_of same block =
    block.fork + flag (is_some block.image) 16 + flag (nat_lt 0 (length block.payload)) 32 + flag block.will_init 64 + flag same 128

-- the header of a block behind one of this relation
abbrev pub header_of : Option Locator → NewBlock → BlockHeader
header_of before block = record {
  id = block.id;
  flags = flags_of (is_same_relation before block.locator) block;
  data_length = length block.payload;
  image = option_map image_header_of block.image;
  locator = block.locator;
  block = block.block;
}

-- the parts of blocks, one after another
abbrev pub block_parts : Option Locator → List NewBlock → List Part
block_parts before [] = []
block_parts before (block ∷ blocks) = part.Block (header_of before block) ∷ block_parts (Some block.locator) blocks

-- the part of main data: the short form up to 255 bytes, and none for none
abbrev pub main_parts : ℕ → List Part
main_parts size =
    if size == 0 then []
    else if nat_le size 255 then part.ShortMain size ∷ []
    else part.LongMain size ∷ []

abbrev pub image_bytes : Option NewImage → List ℕ
image_bytes None = []
image_bytes (Some image) = image.bytes

-- a block's image and its data
abbrev pub payload_of : NewBlock → List ℕ
payload_of block = image_bytes block.image ++ block.payload

-- how a new record is spelled
abbrev pub spelling_of : NewRecord → Spelling
spelling_of rec = record {
  xid = rec.xid.0;
  prev = rec.prev.0;
  info = rec.info;
  manager = rec.manager;
  padding = 0;
  parts = block_parts None rec.blocks ++ main_parts (length rec.main);
  payloads = flat_map payload_of rec.blocks ++ rec.main;
}

-- the bytes of a new record
abbrev pub encoded : NewRecord → List ℕ
encoded rec = spelled (spelling_of rec)

-- the length of a block's header: id, flags, length, block, and what its flags add
abbrev pub header_size : Option Locator → NewBlock → ℕ
header_size before block = 8 + flag (is_some block.image) 5 + (if is_same_relation before block.locator then 0 else 12)

-- the length of blocks, with their payloads
abbrev pub blocks_size : Option Locator → List NewBlock → ℕ
blocks_size before [] = 0
blocks_size before (block ∷ blocks) = header_size before block + length (payload_of block) + blocks_size (Some block.locator) blocks

-- the length of main data, with its header
abbrev pub main_size : ℕ → ℕ
main_size size = size + (if size == 0 then 0 else if nat_le size 255 then 2 else 5)

-- the length of the record
abbrev pub new_size : NewRecord → ℕ
new_size rec = 24 + blocks_size None rec.blocks + main_size (length rec.main)

-- an image is a whole page, or what stands around a hole within the page
abbrev pub is_page_image : NewImage → Bool
is_page_image image =
    if nat_lt (length image.bytes) 8192
    then nat_lt 0 image.hole_at && nat_le image.hole_at (length image.bytes)
    else (length image.bytes == 8192) && (image.hole_at == 0)

-- a block can be spelled
pub record IsNewBlock (block : NewBlock) : Type 0 where
  pub id : block.id ≤ 32
  pub fork : block.fork < 16
  pub image : IfSome block.image (λ image. IsTrue (is_page_image image))
  pub payload : length block.payload < 2 ^ 16

-- the blocks can be spelled, and their ids rise from this one on
abbrev pub AreNewBlocks : ℕ → List NewBlock → Type 0
AreNewBlocks least [] = Unit {0}
AreNewBlocks least (block ∷ blocks) = (least ≤ block.id) × IsNewBlock block × AreNewBlocks (block.id + 1) blocks

-- the record can be spelled
pub record IsNew (rec : NewRecord) : Type 0 where
  pub xid : rec.xid.0 < 2 ^ 32
  pub blocks : AreNewBlocks 0 rec.blocks
  pub total : new_size rec ≤ 67108864

-- the numbers in a block have the sizes of their types
pub record HasSizes (block : NewBlock) : Type 0 where
  pub locator : IsLocator block.locator
  pub block_fits : block.block < 2 ^ 32
  pub image : IfSome block.image (λ image. (image.hole_at < 2 ^ 16) × AreBytes image.bytes)
  pub payload : AreBytes block.payload

-- and so do those in a record
pub record HasSize (rec : NewRecord) : Type 0 where
  pub prev : rec.prev.0 < 2 ^ 64
  pub info : rec.info < 2 ^ 8
  pub manager : rec.manager < 2 ^ 8
  pub blocks : All HasSizes rec.blocks
  pub main : AreBytes rec.main

-- the record that is read
abbrev pub image_of : NewImage → Image
image_of image = record { apply = image.apply; hole_at = image.hole_at; bytes = image.bytes }

abbrev pub block_of : NewBlock → Block
block_of block = record {
  id = block.id;
  locator = block.locator;
  fork = block.fork;
  block = block.block;
  will_init = block.will_init;
  image = option_map image_of block.image;
  payload = block.payload;
}

abbrev pub recorded : NewRecord → Record
recorded rec = record {
  head = record { total = new_size rec; xid = rec.xid; prev = rec.prev; info = rec.info; manager = rec.manager };
  blocks = map block_of rec.blocks;
  main = rec.main;
}

-- what is written is read as the same record, where the manager is known and the link may be so
abbrev pub EncodedIsRead : Type 0
EncodedIsRead = (rec : NewRecord) (at : ℕ) (rule : PrevRule) → IsNew rec → HasSize rec → is_unknown_manager rec.manager ≡ false → may_link rule at rec.prev.0 ≡ true
    → decoded (encoded rec) at rule ≡ Ok (recorded rec)
