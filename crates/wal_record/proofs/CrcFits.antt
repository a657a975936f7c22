-- A CRC of bytes has 32 bits, and what is spelled is bytes.
use Rattle.std.proofs.Common.{ℕ, zero, suc, ◌/◌, ◌%◌, ◌^◌, ◌<◌, Bool, true, false, cond, List, [], ◌∷◌, ◌++◌, fold, arith, ◌==◌, bit_xor}
use Rattle.std.specs.List.{flat_map}
use Rattle.std.proofs.lemmas.Nat.{xor_lt}
use Rattle.std.proofs.lemmas.List.Elements.{All-nil, All-head, All-tail}
use Rattle.std.proofs.lemmas.List.Concat.{flat_map-cons}
use Rattle.pg_crc32c.specs.Crc32c.{after_bit, after_bits, after_byte, crc32c_of}
use Rattle.wal_record.specs.declared.parts.Part.{Part}
use Rattle.wal_record.specs.declared.parts.Part.TheVariants as part
use Rattle.wal_record.specs.declared.parts.ImageHeader.{ImageHeader}
use Rattle.wal_record.specs.declared.parts.BlockHeader.{BlockHeader}
use Rattle.std.proofs.Common.{Option, Some, None}
use Rattle.pg_types.specs.Numbers.{has_bits}
use Rattle.pg_types.specs.Bytes.{AreBytes}
use Rattle.wal_record.specs.Spelling.{one_byte, two_bytes, four_bytes, image_text, locator_text, relation_text, part_text}
use Rattle.pg_types.proofs.Bytes.{both-bytes, number-bytes}

-- ---- the CRC

after_bit-fits : (crc : ℕ) → crc < 2 ^ 32 → after_bit crc < 2 ^ 32
after_bit-fits crc h = by-bit (crc % 2 == 1)
  where
    by-bit : (b : Bool) → cond b (bit_xor (crc / 2) 0x82F63B78) (crc / 2) < 2 ^ 32
    by-bit true = xor_lt 32 (crc / 2) 0x82F63B78 (omega arith) (omega arith)
    by-bit false = omega arith

after_bits-fits : (n crc : ℕ) → crc < 2 ^ 32 → after_bits n crc < 2 ^ 32
unfolding after_bits
after_bits-fits zero crc h = h
after_bits-fits (suc n) crc h = after_bits-fits n (after_bit crc) (after_bit-fits crc h)

fold-fits : (crc : ℕ) (bytes : List ℕ) → crc < 2 ^ 32 → AreBytes bytes → fold after_byte crc bytes < 2 ^ 32
fold-fits crc [] h all = h
fold-fits crc (b ∷ bytes) h all =
    let small : b < 256 = All-head (λ x. x < 256) b bytes all in
    fold-fits (after_byte crc b) bytes (after_bits-fits 8 (bit_xor crc b) (xor_lt 32 crc b h (omega arith))) (All-tail (λ x. x < 256) b bytes all)

pub crc-fits : (bytes : List ℕ) → AreBytes bytes → crc32c_of bytes < 2 ^ 32
unfolding crc32c_of
crc-fits bytes all = xor_lt 32 (fold after_byte 0xFFFFFFFF bytes) 0xFFFFFFFF (fold-fits 0xFFFFFFFF bytes (omega arith) all) (omega arith)

-- ---- bytes

image-bytes : (image : Option ImageHeader) → AreBytes (image_text image)
image-bytes None = All-nil (λ b. b < 256)
image-bytes (Some image) = both-bytes (two_bytes image.length) (two_bytes image.hole_at ++ one_byte image.info) (number-bytes 2 image.length) (both-bytes (two_bytes image.hole_at) (one_byte image.info) (number-bytes 2 image.hole_at) (number-bytes 1 image.info))

relation-bytes : (block : BlockHeader) → AreBytes (relation_text block)
relation-bytes block = by-flag (has_bits block.flags 128)
  where
    by-flag : (b : Bool) → AreBytes (cond b [] (locator_text block.locator))
    by-flag true = All-nil (λ x. x < 256)
    by-flag false = both-bytes (four_bytes block.locator.space) (four_bytes block.locator.db ++ four_bytes block.locator.rel) (number-bytes 4 block.locator.space)
        (both-bytes (four_bytes block.locator.db) (four_bytes block.locator.rel) (number-bytes 4 block.locator.db) (number-bytes 4 block.locator.rel))

part-bytes : (p : Part) → AreBytes (part_text p)
unfolding part_text
part-bytes (part.Block block) =
    both-bytes (one_byte block.id) (one_byte block.flags ++ (two_bytes block.data_length ++ (image_text block.image ++ (relation_text block ++ four_bytes block.block)))) (number-bytes 1 block.id)
    (both-bytes (one_byte block.flags) (two_bytes block.data_length ++ (image_text block.image ++ (relation_text block ++ four_bytes block.block))) (number-bytes 1 block.flags)
    (both-bytes (two_bytes block.data_length) (image_text block.image ++ (relation_text block ++ four_bytes block.block)) (number-bytes 2 block.data_length)
    (both-bytes (image_text block.image) (relation_text block ++ four_bytes block.block) (image-bytes block.image)
    (both-bytes (relation_text block) (four_bytes block.block) (relation-bytes block) (number-bytes 4 block.block)))))
part-bytes (part.Origin origin) = both-bytes (one_byte 253) (two_bytes origin) (number-bytes 1 253) (number-bytes 2 origin)
part-bytes (part.TopXid xid) = both-bytes (one_byte 252) (four_bytes xid) (number-bytes 1 252) (number-bytes 4 xid)
part-bytes (part.ShortMain size) = both-bytes (one_byte 255) (one_byte size) (number-bytes 1 255) (number-bytes 1 size)
part-bytes (part.LongMain size) = both-bytes (one_byte 254) (four_bytes size) (number-bytes 1 254) (number-bytes 4 size)

pub parts-bytes : (parts : List Part) → AreBytes (flat_map part_text parts)
parts-bytes [] = All-nil (λ b. b < 256)
parts-bytes (p ∷ parts) = rw flat_map-cons (both-bytes (part_text p) (flat_map part_text parts) (part-bytes p) (parts-bytes parts))
