-- The spelling of a record as a function of its parts (xlogrecord.h), apart from how it is read.
use Rattle.std.specs.Prelude.{◌≡◌, ℕ, ◌+◌, ◌<◌, ◌≤◌, ◌^◌, true, false, List, [], ◌∷◌, ◌++◌, length, drop, Option, Some, None, Ok, MatchBool, if◌then◌else◌}
use Rattle.std.specs.List.{flat_map}
use Rattle.byteorder.specs.Endian.{little_bytes}
use Rattle.pg_crc32c.specs.Crc32c.{crc32c_of}
use Rattle.pg_types.specs.declared.names.Locator.{Locator}
use Rattle.wal_record.specs.declared.types.PrevRule.{PrevRule}
use Rattle.wal_record.specs.declared.parts.Part.{Part}
use Rattle.wal_record.specs.declared.parts.Part.TheVariants as part
use Rattle.wal_record.specs.declared.parts.BlockHeader.{BlockHeader}
use Rattle.wal_record.specs.declared.parts.ImageHeader.{ImageHeader}
use Rattle.wal_record.specs.declared.parts.HeadersRead.{HeadersRead}
use Rattle.wal_record.specs.Record.{Record}
use Rattle.pg_types.specs.Bytes.{AreBytes}
use Rattle.pg_types.specs.Numbers.{has_bits}
use Rattle.wal_record.specs.Parts.{is_compressed, fits_page, data_agrees, after, start, seen_after}
use Rattle.wal_record.specs.Decoded.{is_unknown_manager, may_link, blocks_of, decoded}

-- a number in one, two and four bytes, the lowest first
abbrev pub one_byte : ℕ → List ℕ
one_byte x = little_bytes 1 x

abbrev pub two_bytes : ℕ → List ℕ
two_bytes x = little_bytes 2 x

abbrev pub four_bytes : ℕ → List ℕ
four_bytes x = little_bytes 4 x

-- the header of an image that is not compressed (XLogRecordBlockImageHeader)
abbrev pub image_text : Option ImageHeader → List ℕ
image_text None = []
image_text (Some image) = two_bytes image.length ++ (two_bytes image.hole_at ++ one_byte image.info)

-- tablespace, database and file (RelFileLocator), unless it is that of the block before
abbrev pub locator_text : Locator → List ℕ
locator_text locator = four_bytes locator.space ++ (four_bytes locator.db ++ four_bytes locator.rel)

abbrev pub relation_text : BlockHeader → List ℕ
relation_text block = if has_bits block.flags 128 then [] else locator_text block.locator

-- the header of a block behind its id (XLogRecordBlockHeader)
abbrev pub block_text : BlockHeader → List ℕ
block_text block =
    one_byte block.flags ++ (two_bytes block.data_length ++ (image_text block.image ++ (relation_text block ++ four_bytes block.block)))

-- the header of a part, which begins with its id
unfoldable pub part_text : Part → List ℕ
part_text (part.Block block) = one_byte block.id ++ block_text block
part_text (part.Origin origin) = one_byte 253 ++ two_bytes origin
part_text (part.TopXid xid) = one_byte 252 ++ four_bytes xid
part_text (part.ShortMain size) = one_byte 255 ++ one_byte size
part_text (part.LongMain size) = one_byte 254 ++ four_bytes size

-- an image's header has numbers of its size, and a whole page or a hole within it
pub record IsImage (image : ImageHeader) : Type 0 where
  pub length_fits : image.length < 2 ^ 16
  pub hole_at_fits : image.hole_at < 2 ^ 16
  pub info_fits : image.info < 2 ^ 8
  pub plain : is_compressed image ≡ false
  pub page : fits_page image ≡ true

-- an image is there exactly where a flag says so
abbrev pub ImageAgrees : ℕ → Option ImageHeader → Type 0
ImageAgrees flags None = has_bits flags 16 ≡ false
ImageAgrees flags (Some image) = (has_bits flags 16 ≡ true) × IsImage image

pub record IsLocator (locator : Locator) : Type 0 where
  pub space : locator.space < 2 ^ 32
  pub db : locator.db < 2 ^ 32
  pub rel : locator.rel < 2 ^ 32

-- where a flag says so the relation is that of the block before
abbrev pub RelationAgrees : Option Locator → BlockHeader → Type 0
RelationAgrees before block = MatchBool (has_bits block.flags 128) (before ≡ Some block.locator) (IsLocator block.locator)

-- a block's header may come behind what was seen: ids rise, to 32 at most
pub record IsBlock (seen : HeadersRead) (block : BlockHeader) : Type 0 where
  pub rising : seen.least_id ≤ block.id
  pub id_fits : block.id ≤ 32
  pub flags_fit : block.flags < 2 ^ 8
  pub size_fits : block.data_length < 2 ^ 16
  pub size_agrees : data_agrees block.flags block.data_length ≡ true
  pub image : ImageAgrees block.flags block.image
  pub relation : RelationAgrees seen.locator block
  pub block_fits : block.block < 2 ^ 32

-- a part's header may come behind what was seen
abbrev pub MayFollow : HeadersRead → Part → Type 0
MayFollow seen (part.Block block) = IsBlock seen block
MayFollow seen (part.Origin origin) = origin < 2 ^ 16
MayFollow seen (part.TopXid xid) = xid < 2 ^ 32
MayFollow seen (part.ShortMain size) = size < 2 ^ 8
MayFollow seen (part.LongMain size) = size < 2 ^ 32

-- these parts may come one after another, and nothing behind main data's
abbrev pub AreParts : HeadersRead → List Part → Type 0
AreParts seen [] = Unit {0}
AreParts seen (p ∷ parts) = (seen.closed ≡ false) × MayFollow seen p × AreParts (after seen p) parts

-- A record by its parts. The padding is two bytes of the header that nothing reads; the payloads are
-- those of the blocks in their order, and then main data.
pub record Spelling : Type 0 where
  pub xid : ℕ
  pub prev : ℕ
  pub info : ℕ
  pub manager : ℕ
  pub padding : ℕ
  pub parts : List Part
  pub payloads : List ℕ

-- what stands behind the header
abbrev pub behind_header : Spelling → List ℕ
behind_header s = flat_map part_text s.parts ++ s.payloads

abbrev pub total_of : Spelling → ℕ
total_of s = 24 + length (behind_header s)

-- the header before its CRC, by its fields (XLogRecord)
abbrev pub front_of : ℕ → ℕ → ℕ → ℕ → ℕ → ℕ → List ℕ
front_of total xid prev info manager padding =
    four_bytes total ++ (four_bytes xid ++ (little_bytes 8 prev ++ (one_byte info ++ (one_byte manager ++ two_bytes padding))))

abbrev pub before_crc : Spelling → List ℕ
before_crc s = front_of (total_of s) s.xid s.prev s.info s.manager s.padding

-- the record's bytes
unfoldable pub spelled : Spelling → List ℕ
spelled s = before_crc s ++ (four_bytes (crc32c_of (behind_header s ++ before_crc s)) ++ behind_header s)

-- the numbers have their sizes, the parts may stand so, and the payloads are as long as they say
pub record IsSpelling (s : Spelling) : Type 0 where
  pub xid_fits : s.xid < 2 ^ 32
  pub prev_fits : s.prev < 2 ^ 64
  pub info_fits : s.info < 2 ^ 8
  pub manager_fits : s.manager < 2 ^ 8
  pub padding_fits : s.padding < 2 ^ 16
  pub known : is_unknown_manager s.manager ≡ false
  pub parted : AreParts start s.parts
  pub bytes : AreBytes s.payloads
  pub filled : length s.payloads ≡ (seen_after start s.parts).blocks + (seen_after start s.parts).main
  pub total_fits : total_of s ≤ 67108864

-- the record that is spelled so
abbrev pub record_of : Spelling → Record
record_of s = record {
  head = record { total = total_of s; xid = record { 0 = s.xid }; prev = record { 0 = s.prev }; info = s.info; manager = s.manager };
  blocks = blocks_of s.parts s.payloads;
  main = drop (seen_after start s.parts).blocks s.payloads;
}

-- what is spelled so is read, where the link may be so
abbrev pub SpelledIsRead : Type 0
SpelledIsRead = (s : Spelling) (at : ℕ) (rule : PrevRule) → IsSpelling s → may_link rule at s.prev ≡ true
    → decoded (spelled s) at rule ≡ Ok (record_of s)

-- what is read of bytes is spelled so
abbrev pub ReadIsSpelled : Type 0
ReadIsSpelled = (bytes : List ℕ) (at : ℕ) (rule : PrevRule) (r : Record) → AreBytes bytes → decoded bytes at rule ≡ Ok r
    → (s : Spelling) × IsSpelling s × (may_link rule at s.prev ≡ true) × (bytes ≡ spelled s) × (r ≡ record_of s)
