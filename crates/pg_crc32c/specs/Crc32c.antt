-- CRC-32C, the checksum of log records and of files of state (pg_crc32c.h): the polynomial
-- 0x1EDC6F41 in its reflected form 0x82F63B78, the lowest bit first, begun at all ones and ended
-- with all bits turned over (INIT_CRC32C, FIN_CRC32C).
use Rattle.std.specs.Prelude.{ℕ, ◌/◌, ◌%◌, ◌==◌, List, fold, bit_xor, if◌then◌else◌, zero, suc}

-- one bit divided: the lowest bit goes out, and where it was set the polynomial comes off
abbrev pub after_bit : ℕ → ℕ
after_bit crc = if crc % 2 == 1 then bit_xor (crc / 2) 0x82F63B78 else crc / 2

-- so many bits divided, one after another
unfoldable pub after_bits : ℕ → ℕ → ℕ
after_bits zero crc = crc
after_bits (suc n) crc = after_bits n (after_bit crc)

-- a byte joins at the low end, and its eight bits are divided (COMP_CRC32C at one byte)
abbrev pub after_byte : ℕ → ℕ → ℕ
after_byte crc byte = after_bits 8 (bit_xor crc byte)

-- the CRC-32C of a text of bytes
unfoldable pub crc32c_of : List ℕ → ℕ
crc32c_of bytes = bit_xor (fold after_byte 0xFFFFFFFF bytes) 0xFFFFFFFF
