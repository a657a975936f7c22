-- A record read from its bytes, with the first fault (xlogrecord.h; ValidXLogRecordHeader,
-- ValidXLogRecord and DecodeXLogRecord of xlogreader.c).
use Rattle.std.specs.Prelude.{◌≡◌, ℕ, ◌+◌, ◌==◌, ◌<◌, ◌^◌, Bool, ◌&&◌, not, nat_lt, nat_le, bit_and, List, [], ◌∷◌, ◌++◌, length, drop, take, slice_index, Option, Some, None, option_map, unwrap_or, Result, Ok, Err, if◌then◌else◌}
use Rattle.pg_types.specs.Numbers.{number_at, has_bits}
use Rattle.pg_crc32c.specs.Crc32c.{crc32c_of}
use Rattle.wal_record.specs.declared.types.RecordHead.{RecordHead}
use Rattle.wal_record.specs.declared.types.PrevRule.{PrevRule}
use Rattle.wal_record.specs.declared.types.PrevRule.TheVariants.{Is, Below}
use Rattle.wal_record.specs.declared.types.RecordFault.{RecordFault}
use Rattle.wal_record.specs.declared.types.RecordFault.TheVariants.{Zero, Short, Manager, Prev, TooLong, Crc, Layout, Compressed}
use Rattle.wal_record.specs.declared.parts.Part.{Part}
use Rattle.wal_record.specs.declared.parts.Part.TheVariants as part
use Rattle.wal_record.specs.declared.parts.BlockHeader.{BlockHeader}
use Rattle.wal_record.specs.declared.parts.ImageHeader.{ImageHeader}
use Rattle.wal_record.specs.declared.parts.HeadersRead.{HeadersRead}
use Rattle.wal_record.specs.Record.{Image, Block, Record}
use Rattle.wal_record.specs.Parts.{image_length, start, seen_after, parts_from, parts_of}

infixl 10 ◌>>=◌
abbrev pub ◌>>=◌ : {A B : Type 0} → Result A RecordFault → (A → Result B RecordFault) → Result B RecordFault
(Err fault) >>= f = Err fault
(Ok x) >>= f = f x

-- the length field, which is 0 behind the log's end, and no less than a header's length
unfoldable pub total_at : List ℕ → Result ℕ RecordFault
total_at bytes =
    if nat_lt (length bytes) 4 then Err Layout
    else if number_at 4 bytes 0 == 0 then Err Zero
    else if nat_lt (number_at 4 bytes 0) 24 then Err Short
    else Ok (number_at 4 bytes 0)

-- the fields of a header (XLogRecord)
unfoldable pub fields_of : List ℕ → RecordHead
fields_of bytes = record {
  total = number_at 4 bytes 0;
  xid = record { 0 = number_at 4 bytes 4 };
  prev = record { 0 = number_at 8 bytes 8 };
  info = slice_index bytes 16;
  manager = slice_index bytes 17;
}

-- the ids between the built-in managers and the custom ones (RmgrIdIsValid, rmgr.h)
abbrev pub is_unknown_manager : ℕ → Bool
is_unknown_manager manager = nat_le 22 manager && nat_le manager 127

-- a record at this position may have this link
abbrev pub may_link : PrevRule → ℕ → ℕ → Bool
may_link (Is before) at link = link == before.0
may_link Below at link = nat_lt link at

-- the tests of a header but for its length: manager, link, and at most 64 MiB
unfoldable pub tested : RecordHead → ℕ → PrevRule → Result RecordHead RecordFault
tested head at prev =
    if is_unknown_manager head.manager then Err Manager
    else if not (may_link prev at head.prev.0) then Err Prev
    else if nat_lt 67108864 head.total then Err TooLong
    else Ok head

-- The header at the front, tested. Where the bytes end before a field that is tested, it is no header.
unfoldable pub head_of : List ℕ → ℕ → PrevRule → Result RecordHead RecordFault
head_of bytes at prev = do
  total ← total_at bytes
  if nat_lt (length bytes) 18 then Err Layout else tested (fields_of bytes) at prev

-- the CRC in the header is that of what stands behind the header and then the header before the CRC
abbrev pub has_right_crc : List ℕ → Bool
has_right_crc bytes = number_at 4 bytes 20 == crc32c_of (drop 24 bytes ++ take 20 bytes)

-- the payload of a block: its image, then its data
abbrev pub image_in : ImageHeader → List ℕ → Image
image_in image payload = record { apply = has_bits image.info 2; hole_at = image.hole_at; bytes = take image.length payload }

abbrev pub block_in : BlockHeader → List ℕ → Block
block_in block payload = record {
  id = block.id;
  locator = block.locator;
  fork = bit_and block.flags 15;
  block = block.block;
  will_init = has_bits block.flags 64;
  image = option_map (λ image. image_in image payload) block.image;
  payload = take block.data_length (drop (image_length block.image) payload);
}

-- the blocks among the parts, each with its share of the payloads, which stand in the same order
abbrev pub blocks_of : List Part → List ℕ → List Block
blocks_of [] payloads = []
blocks_of (part.Block block ∷ parts) payloads =
    block_in block payloads ∷ blocks_of parts (drop (image_length block.image + block.data_length) payloads)
blocks_of (part.Origin origin ∷ parts) payloads = blocks_of parts payloads
blocks_of (part.TopXid xid ∷ parts) payloads = blocks_of parts payloads
blocks_of (part.ShortMain length ∷ parts) payloads = blocks_of parts payloads
blocks_of (part.LongMain length ∷ parts) payloads = blocks_of parts payloads

-- the payloads have the lengths that the parts say, to the last byte, and no image is compressed
abbrev pub filled : RecordHead → List Part → List ℕ → Result Record RecordFault
filled head parts payloads = let seen = seen_after start parts in
    if not (length payloads == seen.blocks + seen.main) then Err Layout
    else if seen.compressed then Err Compressed
    else Ok (record { head = head; blocks = blocks_of parts payloads; main = drop seen.blocks payloads })

abbrev pub filled_by : RecordHead → Option (List Part × List ℕ) → Result Record RecordFault
filled_by head None = Err Layout
filled_by head (Some x) = filled head x.0 x.1

-- a record by its header and the text behind it
unfoldable pub laid_out : RecordHead → List ℕ → Result Record RecordFault
laid_out head text = filled_by head (parts_of text)

-- the whole record is there, with a right CRC
unfoldable pub whole : RecordHead → List ℕ → Result Record RecordFault
whole head bytes =
    if not (length bytes == head.total) then Err Layout
    else if not (has_right_crc bytes) then Err Crc
    else laid_out head (drop 24 bytes)

-- The record that bytes at this position are: its header's tests come first, then its length, its CRC,
-- its layout, and last that no image is compressed.
unfoldable pub decoded : List ℕ → ℕ → PrevRule → Result Record RecordFault
decoded bytes at prev = do
  head ← head_of bytes at prev
  whole head bytes

-- what up to n parts leave seen, and what stands behind their headers
unfoldable pub walked_from : ℕ → HeadersRead → List ℕ → Option (HeadersRead × List ℕ)
walked_from n seen text = option_map (λ x. (seen_after seen x.0, x.1)) (parts_from n seen text)

-- the same of all parts of a record whose text behind its header this is
abbrev pub walked : List ℕ → Option (HeadersRead × List ℕ)
walked text = walked_from (length text) start text

-- the blocks of a text whose payloads these are
unfoldable pub blocks_in : List ℕ → List ℕ → List Block
blocks_in text payloads = unwrap_or (option_map (λ x. blocks_of x.0 payloads) (parts_of text)) []

-- the header of a block, if the part is the block with this id
abbrev pub block_with_id : ℕ → Part → Option BlockHeader
block_with_id id (part.Block block) = if block.id == id then Some block else None
block_with_id id (part.Origin origin) = None
block_with_id id (part.TopXid xid) = None
block_with_id id (part.ShortMain length) = None
block_with_id id (part.LongMain length) = None

-- how long the payloads are by the headers, and what stands behind these
abbrev pub announced : HeadersRead × List ℕ → ℕ × List ℕ
announced x = (x.0.blocks + x.0.main, x.1)

-- these payloads stand behind the headers in a text of a record, and are as long as the headers say
pub record IsParted (text payloads : List ℕ) : Type 0 where
  pub bounded : length text < 2 ^ 32
  pub payloads_there : option_map announced (walked text) ≡ Some (length payloads, payloads)
