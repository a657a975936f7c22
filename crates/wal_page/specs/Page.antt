-- The header of a WAL page (XLogPageHeaderData, XLogLongPageHeaderData, xlog_internal.h), and the rules
-- by which a reader takes it (XLogReaderValidatePageHeader, xlogreader.c).
use Rattle.std.specs.Prelude.{ℕ, ◌-◌, ◌%◌, ◌^◌, ◌<◌, ◌≡◌, ◌==◌, Bool, true, false, ◌&&◌, ◌||◌, not, nat_le, nat_lt, bit_and, Option, Some, None, Result, Ok, Err, List, [], ◌∷◌, ◌++◌, length, if◌then◌else◌, is_some, IfSome, IsSomeAnd, All}
use Rattle.std.specs.Option.{ForSome}
use Rattle.byteorder.specs.Endian.{little_bytes}
use Rattle.pg_types.specs.Names.{IsSegmentSize, is_segment_size}
use Rattle.pg_types.specs.Numbers.{number_at}
use Rattle.wal_page.specs.declared.Expect.{Expect}
use Rattle.wal_page.specs.declared.PageHead.{PageHead}
use Rattle.wal_page.specs.declared.PageFault.{PageFault}
use Rattle.wal_page.specs.declared.PageFault.TheVariants.{Short, Magic, Info, Address, Timeline, System, Sizes}

-- a segment size that is known is one that is allowed
abbrev pub KnowsSegments : Expect → Type 0
KnowsSegments expect = IfSome expect.known (λ known. IsSegmentSize known.1)

-- The fields, by their offsets (xlog_internal.h).
abbrev pub magic_in : List ℕ → ℕ
magic_in bytes = number_at 2 bytes 0

abbrev pub info_in : List ℕ → ℕ
info_in bytes = number_at 2 bytes 2

abbrev pub tli_in : List ℕ → ℕ
tli_in bytes = number_at 4 bytes 4

abbrev pub address_in : List ℕ → ℕ
address_in bytes = number_at 8 bytes 8

abbrev pub rem_in : List ℕ → ℕ
rem_in bytes = number_at 4 bytes 16

abbrev pub system_in : List ℕ → ℕ
system_in bytes = number_at 8 bytes 24

abbrev pub size_in : List ℕ → ℕ
size_in bytes = number_at 4 bytes 32

abbrev pub block_in : List ℕ → ℕ
block_in bytes = number_at 4 bytes 36

-- the long header is due on a segment's first page (XLP_LONG_HEADER), and where the segment size has
-- still to be learnt from it
abbrev pub is_long_due : Option (ℕ × ℕ) → ℕ → Bool
is_long_due None at = true
is_long_due (Some known) at = at % known.1 == 0

-- the length of a header (SizeOfXLogShortPHD, SizeOfXLogLongPHD)
abbrev pub header_length : Bool → ℕ
header_length true = 40
header_length false = 24

-- the four info bits and no other, and that of the long header exactly where it is due (XLP_ALL_FLAGS)
abbrev pub has_info : List ℕ → Bool → Bool
has_info bytes long = nat_lt (info_in bytes) 16 && bit_and (info_in bytes) 2 == (if long then 2 else 0)

-- the page's own position; while the segment size is unknown, that of the segment in which the position
-- lies, where the size that stands there allows to say so
abbrev pub has_address : List ℕ → ℕ → Option (ℕ × ℕ) → Bool
has_address bytes at None = not (is_segment_size (size_in bytes)) || address_in bytes == at - at % size_in bytes
has_address bytes at (Some known) = address_in bytes == at

-- the timeline that owns the page's first byte; while the segment size is unknown and none that is
-- allowed stands there, the page is not known and any timeline passes
abbrev pub has_timeline : List ℕ → ℕ → Option (ℕ × ℕ) → Bool
has_timeline bytes tli None = not (is_segment_size (size_in bytes)) || tli_in bytes == tli
has_timeline bytes tli (Some known) = tli_in bytes == tli

-- the system's identifier, where one is known and the header is long
abbrev pub has_system : List ℕ → Bool → Option (ℕ × ℕ) → Bool
has_system bytes long None = true
has_system bytes long (Some known) = not long || system_in bytes == known.0

-- the segment size, or an allowed one, and blocks of 8192 bytes, where the header is long
abbrev pub has_sizes : List ℕ → Bool → Option (ℕ × ℕ) → Bool
has_sizes bytes long None = is_segment_size (size_in bytes) && block_in bytes == 8192
has_sizes bytes long (Some known) = not long || (size_in bytes == known.1 && block_in bytes == 8192)

-- the rules in their order, each with the fault that breaking it is
abbrev pub rules : List ℕ → ℕ → Expect → List (Bool × PageFault)
rules bytes at expect =
    let long = is_long_due expect.known at in
    (nat_le (header_length long) (length bytes), Short)
    ∷ (magic_in bytes == 0xD113, Magic)
    ∷ (has_info bytes long, Info)
    ∷ (has_address bytes at expect.known, Address)
    ∷ (has_timeline bytes expect.tli.0 expect.known, Timeline)
    ∷ (has_system bytes long expect.known, System)
    ∷ (has_sizes bytes long expect.known, Sizes)
    ∷ []

-- the fault of the first rule that is broken, or else the value
abbrev pub unless_broken : List (Bool × PageFault) → PageHead → Result PageHead PageFault
unless_broken [] head = Ok head
unless_broken (rule ∷ later) head = if rule.0 then unless_broken later head else Err rule.1

-- what the bytes say
abbrev pub head_in : List ℕ → Bool → PageHead
head_in bytes long = record {
  info = info_in bytes;
  tli = record { 0 = tli_in bytes };
  at = record { 0 = address_in bytes };
  rem = rem_in bytes;
  long = if long then Some (system_in bytes, size_in bytes) else None;
}

-- the header of the page at a position, or the first rule that the bytes break
unfoldable pub page_header : List ℕ → ℕ → Expect → Result PageHead PageFault
page_header bytes at expect = unless_broken (rules bytes at expect) (head_in bytes (is_long_due expect.known at))

-- the long header's further fields (XLogLongPageHeaderData)
unfoldable pub long_text : Option (ℕ × ℕ) → List ℕ
long_text None = []
long_text (Some sizes) = little_bytes 8 sizes.0 ++ little_bytes 4 sizes.1 ++ little_bytes 4 8192

-- the spelling of a header, with the four bytes that align its end
unfoldable pub header_with : List ℕ → PageHead → List ℕ
header_with padding head =
    little_bytes 2 0xD113 ++ little_bytes 2 head.info ++ little_bytes 4 head.tli.0 ++ little_bytes 8 head.at.0
    ++ little_bytes 4 head.rem ++ padding ++ long_text head.long

-- the spelling of a header as it is written, with zeros as padding
unfoldable pub header_text : PageHead → List ℕ
header_text head = header_with (little_bytes 4 0) head

-- the bit of the long header is set exactly where the long fields are there, and no bit above 8
abbrev pub HasInfo : PageHead → Type 0
HasInfo head = (head.info < 16) × (bit_and head.info 2 ≡ (if is_some head.long then 2 else 0))

-- each field fits its bytes
pub record Fits (head : PageHead) : Type 0 where
  pub tli : head.tli.0 < 2 ^ 32
  pub at : head.at.0 < 2 ^ 64
  pub rem : head.rem < 2 ^ 32
  pub system : ForSome head.long (λ sizes. sizes.0 < 2 ^ 64)
  pub size : ForSome head.long (λ sizes. sizes.1 < 2 ^ 32)
  pub info : HasInfo head

-- the header is long where that is due, with the known sizes or an allowed one, and names the page's position
abbrev pub IsExpectedAt : PageHead → ℕ → Option (ℕ × ℕ) → Type 0
IsExpectedAt head at None =
    IsSomeAnd head.long (λ sizes. IsSegmentSize sizes.1 × (head.at.0 ≡ at - at % sizes.1))
IsExpectedAt head at (Some known) =
    (head.at.0 ≡ at) × (head.long ≡ (if at % known.1 == 0 then Some known else None))

-- the header that is expected at a position
pub record IsExpected (head : PageHead) (at : ℕ) (expect : Expect) : Type 0 where
  pub fits : Fits head
  pub tli : head.tli.0 ≡ expect.tli.0
  pub place : IsExpectedAt head at expect.known

-- an expected header is read from its spelling, whatever its padding
abbrev pub WrittenIsRead : Type 0
WrittenIsRead =
    (head : PageHead) (at : ℕ) (expect : Expect) (padding rest : List ℕ)
    → IsExpected head at expect → length padding ≡ 4
    → page_header (header_with padding head ++ rest) at expect ≡ Ok head

-- only the spelling of an expected header is read
abbrev pub ReadIsWritten : Type 0
ReadIsWritten =
    (bytes : List ℕ) (at : ℕ) (expect : Expect) (head : PageHead)
    → All (λ byte. byte < 256) bytes → page_header bytes at expect ≡ Ok head
    → IsExpected head at expect × ((padding : List ℕ) × (rest : List ℕ) × (length padding ≡ 4) × (bytes ≡ header_with padding head ++ rest))
