-- What a reader of a log goes by: the byte that is told at each position, and what pages have to name.
use Rattle.std.specs.Prelude.{ℕ, zero, suc, ◌+◌, Option, Some, None, option_map, Result, Ok, Err, List, [], ◌∷◌}
use Rattle.std.specs.Option.{option_and_then}
use Rattle.wal_page.specs.declared.Expect.{Expect}
use Rattle.wal_page.specs.declared.PageHead.{PageHead}
use Rattle.wal_page.specs.declared.PageFault.{PageFault}
use Rattle.wal_page.specs.Page.{page_header, header_length, is_long_due}
use Rattle.wal_reader.specs.Halt.{Halt, Stops}
use Rattle.wal_reader.specs.declared.types.NoRecord.TheVariants.{End}
use Rattle.wal_reader.specs.declared.types.EndWhy.TheVariants.{Missing, Page}

pub record Told : Type 0 where
  -- the byte at each position, where one is told
  pub byte : ℕ → Option ℕ
  -- the timeline of each position
  pub owner : ℕ → ℕ
  -- the system identifier and the segment size
  pub system : ℕ
  pub segsize : ℕ

-- the bytes at so many positions, if each of them is told
unfoldable pub told_bytes : (ℕ → Option ℕ) → ℕ → ℕ → Option (List ℕ)
told_bytes byte zero at = Some []
told_bytes byte (suc n) at = option_and_then (λ b. option_map (λ rest. b ∷ rest) (told_bytes byte n (at + 1))) (byte at)

-- what the header of the page at a position has to be
abbrev pub expected_at : Told → ℕ → Expect
expected_at told at = record { known = Some (told.system, told.segsize); tli = record { 0 = told.owner at } }

-- the length of that header
abbrev pub page_header_length : Told → ℕ → ℕ
page_header_length told at = header_length (is_long_due (Some (told.system, told.segsize)) at)

abbrev pub accepted : Result PageHead PageFault → Result PageHead Halt
accepted (Ok head) = Ok head
accepted (Err fault) = Err (Stops (End Page))

abbrev pub read_at : Told → ℕ → Option (List ℕ) → Result PageHead Halt
read_at told at None = Err (Stops (End Missing))
read_at told at (Some bytes) = accepted (page_header bytes at (expected_at told at))

-- the header of the page at a position: its bytes are there, and it has no fault
unfoldable pub header_at : Told → ℕ → Result PageHead Halt
header_at told at = read_at told at (told_bytes told.byte (page_header_length told at) at)
