-- The headers of a record's parts, read from left to right (xlogrecord.h; DecodeXLogRecord of
-- xlogreader.c). None is a part that breaks the layout.
use Rattle.std.specs.Prelude.{ℕ, zero, suc, ◌+◌, ◌-◌, ◌==◌, Bool, true, false, ◌&&◌, ◌||◌, not, nat_lt, nat_le, bit_and, List, [], ◌∷◌, length, drop, fold, Option, Some, None, option_map, if◌then◌else◌}
use Rattle.pg_types.specs.Numbers.{number_at, has_bits}
use Rattle.pg_types.specs.declared.names.Locator.{Locator}
use Rattle.wal_record.specs.declared.parts.Part.{Part}
use Rattle.wal_record.specs.declared.parts.Part.TheVariants as part
use Rattle.wal_record.specs.declared.parts.BlockHeader.{BlockHeader}
use Rattle.wal_record.specs.declared.parts.ImageHeader.{ImageHeader}
use Rattle.wal_record.specs.declared.parts.HeadersRead.{HeadersRead}

infixl 10 ◌>>=◌
abbrev pub ◌>>=◌ : {A B : Type 0} → Option A → (A → Option B) → Option B
None >>= f = None
(Some x) >>= f = f x

-- the little-endian number in the first n bytes, and what stands behind them
unfoldable pub number_from : ℕ → List ℕ → Option (ℕ × List ℕ)
number_from n text = if nat_lt (length text) n then None else Some (number_at n text 0, drop n text)

-- the image has a hole (BKPIMAGE_HAS_HOLE)
abbrev pub has_hole : ImageHeader → Bool
has_hole image = has_bits image.info 1

-- the image is compressed, in one of three ways (BKPIMAGE_COMPRESSED)
abbrev pub is_compressed : ImageHeader → Bool
is_compressed image = has_bits image.info 28

-- An image with a hole is shorter than a page, and the hole, which is what it lacks of a page, begins
-- behind the page's first byte and ends within it. One without has a whole page, and no place of a hole.
abbrev pub fits_page : ImageHeader → Bool
fits_page image =
    if has_hole image
    then nat_lt 0 image.hole_at && nat_lt image.length 8192 && nat_le (image.hole_at + (8192 - image.length)) 8192
    else (image.length == 8192) && (image.hole_at == 0)

-- the fields that the header of each image has (XLogRecordBlockImageHeader)
unfoldable pub image_header : List ℕ → Option (ImageHeader × List ℕ)
image_header text = do
  length ← number_from 2 text
  hole_at ← number_from 2 length.1
  info ← number_from 1 hole_at.1
  Some (record { length = length.0; hole_at = hole_at.0; info = info.0 }, info.1)

-- One with a hole and compression has the hole's length too (XLogRecordBlockCompressHeader), which
-- nothing uses. A compressed image may have any length; another has to fit a page.
unfoldable pub image_behind : ImageHeader → List ℕ → Option (ImageHeader × List ℕ)
image_behind image text =
    if is_compressed image
    then (if has_hole image then option_map (λ hole. (image, hole.1)) (number_from 2 text) else Some (image, text))
    else (if fits_page image then Some (image, text) else None)

unfoldable pub image_at : List ℕ → Option (ImageHeader × List ℕ)
image_at text = do
  image ← image_header text
  image_behind image.0 image.1

-- flag 0x10: an image follows (BKPBLOCK_HAS_IMAGE)
unfoldable pub image_from : ℕ → List ℕ → Option (Option ImageHeader × List ℕ)
image_from flags text =
    if has_bits flags 16 then option_map (λ image. (Some image.0, image.1)) (image_at text) else Some (None, text)

-- tablespace, database and file (RelFileLocator)
unfoldable pub locator_at : List ℕ → Option (Locator × List ℕ)
locator_at text = do
  space ← number_from 4 text
  db ← number_from 4 space.1
  rel ← number_from 4 db.1
  Some (record { space = space.0; db = db.0; rel = rel.0 }, rel.1)

-- flag 0x80: the relation of the block before, which has to be there (BKPBLOCK_SAME_REL)
unfoldable pub locator_from : Option Locator → ℕ → List ℕ → Option (Locator × List ℕ)
locator_from before flags text =
    if has_bits flags 128 then option_map (λ locator. (locator, text)) before else locator_at text

-- flag 0x20: the block has data, and no block has it without (BKPBLOCK_HAS_DATA)
abbrev pub data_agrees : ℕ → ℕ → Bool
data_agrees flags size = if has_bits flags 32 then nat_lt 0 size else size == 0

-- flags and the data's length, which agree
unfoldable pub flags_at : List ℕ → Option ((ℕ × ℕ) × List ℕ)
flags_at text = do
  flags ← number_from 1 text
  size ← number_from 2 flags.1
  if data_agrees flags.0 size.0 then Some ((flags.0, size.0), size.1) else None

-- the header of a block behind its id (XLogRecordBlockHeader)
unfoldable pub block_at : Option Locator → ℕ → List ℕ → Option (BlockHeader × List ℕ)
block_at before id text = do
  flags ← flags_at text
  image ← image_from flags.0.0 flags.1
  locator ← locator_from before flags.0.0 image.1
  block ← number_from 4 locator.1
  Some (record { id = id; flags = flags.0.0; data_length = flags.0.1; image = image.0; locator = locator.0; block = block.0 }, block.1)

-- ids of blocks rise, and go to 32 (XLR_MAX_BLOCK_ID)
unfoldable pub block_from : HeadersRead → ℕ → List ℕ → Option (Part × List ℕ)
block_from seen id text =
    if nat_lt id seen.least_id || nat_lt 32 id then None
    else option_map (λ block. (part.Block block.0, block.1)) (block_at seen.locator id text)

-- 255 and 254: main data by the length of its length (XLR_BLOCK_ID_DATA_SHORT, _LONG); 253: the
-- replication origin (XLR_BLOCK_ID_ORIGIN); 252: the top-level xid (XLR_BLOCK_ID_TOPLEVEL_XID)
unfoldable pub part_from : HeadersRead → ℕ → List ℕ → Option (Part × List ℕ)
part_from seen id text =
    if id == 255 then option_map (λ x. (part.ShortMain x.0, x.1)) (number_from 1 text)
    else if id == 254 then option_map (λ x. (part.LongMain x.0, x.1)) (number_from 4 text)
    else if id == 253 then option_map (λ x. (part.Origin x.0, x.1)) (number_from 2 text)
    else if id == 252 then option_map (λ x. (part.TopXid x.0, x.1)) (number_from 4 text)
    else block_from seen id text

unfoldable pub part_at : HeadersRead → List ℕ → Option (Part × List ℕ)
part_at seen text = do
  id ← number_from 1 text
  part_from seen id.0 id.1

-- how many bytes of image a block has
abbrev pub image_length : Option ImageHeader → ℕ
image_length None = 0
image_length (Some image) = image.length

abbrev pub any_compressed : Option ImageHeader → Bool
any_compressed None = false
any_compressed (Some image) = is_compressed image

-- what was seen, with one more part: the header of main data is the last
abbrev pub after : HeadersRead → Part → HeadersRead
after seen (part.Block block) = record {
  locator = Some block.locator;
  least_id = block.id + 1;
  blocks = seen.blocks + image_length block.image + block.data_length;
  main = seen.main;
  compressed = seen.compressed || any_compressed block.image;
  closed = seen.closed;
}
after seen (part.Origin origin) = seen
after seen (part.TopXid xid) = seen
after seen (part.ShortMain length) = record seen { main = length; closed = true }
after seen (part.LongMain length) = record seen { main = length; closed = true }

-- nothing was seen
abbrev pub start : HeadersRead
start = record { locator = None; least_id = 0; blocks = 0; main = 0; compressed = false; closed = false }

-- what these parts leave seen
abbrev pub seen_after : HeadersRead → List Part → HeadersRead
seen_after seen parts = fold after seen parts

-- The parts, and what stands behind their headers. They end with the header of main data, or where
-- what is left is no more than the payloads of the blocks so far. (At most n are read; each has a byte.)
unfoldable pub parts_from : ℕ → HeadersRead → List ℕ → Option (List Part × List ℕ)
parts_from zero seen text = Some ([], text)
parts_from (suc n) seen text =
    if seen.closed || nat_le (length text) seen.blocks then Some ([], text) else do
      first ← part_at seen text
      others ← parts_from n (after seen first.0) first.1
      Some (first.0 ∷ others.0, others.1)

-- the parts of a record whose text behind its header this is
abbrev pub parts_of : List ℕ → Option (List Part × List ℕ)
parts_of text = parts_from (length text) start text
