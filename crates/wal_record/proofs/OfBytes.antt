-- A record that is read of bytes is of bytes: it is that of a spelling, whose parts are.
use Rattle.std.proofs.Common.{ℕ, ◌+◌, ◌^◌, ◌<◌, List, [], ◌∷◌, All, Option, Some, None, sym, subst}
use Rattle.std.specs.Prelude.{drop, option_map, IfSome}
use Rattle.std.proofs.lemmas.List.Elements.{All-cons, All-nil}
use Rattle.wal_record.specs.declared.parts.Part.{Part}
use Rattle.wal_record.specs.declared.parts.Part.TheVariants as part
use Rattle.wal_record.specs.declared.parts.BlockHeader.{BlockHeader}
use Rattle.wal_record.specs.declared.parts.ImageHeader.{ImageHeader}
use Rattle.wal_record.specs.declared.parts.HeadersRead.{HeadersRead}
use Rattle.wal_record.specs.Parts.{image_length, after, start, seen_after}
use Rattle.wal_record.specs.Decoded.{block_in, blocks_of, image_in}
use Rattle.pg_types.specs.Bytes.{AreBytes}
use Rattle.wal_record.specs.Spelling.{AreParts, IsSpelling, Spelling, record_of}
use Rattle.wal_record.specs.OfBytes.{IsBlockOfBytes, IsOfBytes, ReadIsOfBytes}
use Rattle.wal_record.proofs.SpelledWhole.{is_spelled}
use Rattle.pg_types.proofs.Bytes.{drop-are, take-are}

image-are : (image : Option ImageHeader) (payloads : List ℕ) → AreBytes payloads
    → IfSome (option_map (λ image. image_in image payloads) image) (λ image. AreBytes image.bytes)
image-are None payloads all = tt
image-are (Some image) payloads all = take-are image.length payloads all

block-is : (block : BlockHeader) (payloads : List ℕ) → block.block < 2 ^ 32 → AreBytes payloads → IsBlockOfBytes (block_in block payloads)
block-is block payloads number all = record {
  number = number;
  image = image-are block.image payloads all;
  payload = take-are block.data_length (drop (image_length block.image) payloads) (drop-are (image_length block.image) payloads all);
}

-- each block among the parts has its share of payloads that are bytes
blocks-are : (seen : HeadersRead) (parts : List Part) (payloads : List ℕ) → AreParts seen parts → AreBytes payloads → All IsBlockOfBytes (blocks_of parts payloads)
blocks-are seen [] payloads parted all = All-nil IsBlockOfBytes
blocks-are seen (part.Block block ∷ parts) payloads (opened, may, parted) all =
    let size = image_length block.image + block.data_length in
    All-cons IsBlockOfBytes (block_in block payloads) (blocks_of parts (drop size payloads)) (block-is block payloads may.block_fits all)
    (blocks-are (after seen (part.Block block)) parts (drop size payloads) parted (drop-are size payloads all))
blocks-are seen (part.Origin origin ∷ parts) payloads (opened, may, parted) all =
    blocks-are (after seen (part.Origin origin)) parts payloads parted all
blocks-are seen (part.TopXid xid ∷ parts) payloads (opened, may, parted) all =
    blocks-are (after seen (part.TopXid xid)) parts payloads parted all
blocks-are seen (part.ShortMain size ∷ parts) payloads (opened, may, parted) all =
    blocks-are (after seen (part.ShortMain size)) parts payloads parted all
blocks-are seen (part.LongMain size ∷ parts) payloads (opened, may, parted) all =
    blocks-are (after seen (part.LongMain size)) parts payloads parted all

spelling-is : (s : Spelling) → IsSpelling s → IsOfBytes (record_of s)
spelling-is s is = record {
  xid = is.xid_fits;
  blocks = blocks-are start s.parts s.payloads is.parted is.bytes;
  main = drop-are (seen_after start s.parts).blocks s.payloads is.bytes;
}

pub is_of_bytes : ReadIsOfBytes
is_of_bytes bytes at rule r all e =
    let (s, is, link, text, same) = is_spelled bytes at rule r all e in subst IsOfBytes (sym same) (spelling-is s is)
