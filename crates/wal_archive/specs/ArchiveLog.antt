-- The log of timeline 1 as the segment files of an archive hold it.
use Rattle.std.specs.Prelude.{ℕ, ◌≡◌, ◌<◌, ◌-◌, ◌/◌, ◌%◌, length, min, nat_lt, if◌then◌else◌, List, slice_get, Option, None, Some, Result, IfOk, IfSome}
use Rattle.pg_types.specs.declared.fail.Fail.{Fail}
use Rattle.pg_types.specs.Names.{segment_name_text}
use Rattle.outside.specs.Log.{log_limit}

-- the file of the segment in which a position lies
abbrev pub segment_file : (List ℕ → Option (List ℕ)) → ℕ → ℕ → Option (List ℕ)
segment_file files size at = files (segment_name_text 1 (at / size) size)

-- the byte at an offset of a file, where the file is there and has it
abbrev pub byte_of_file : Option (List ℕ) → ℕ → Option ℕ
byte_of_file None offset = None
byte_of_file (Some contents) offset = slice_get contents offset

-- the byte at a position is the one that the segment's file has there
abbrev pub archived_byte : (List ℕ → Option (List ℕ)) → ℕ → ℕ → Option ℕ
archived_byte files size at = if nat_lt at log_limit then byte_of_file (segment_file files size at) (at % size) else None

-- where an archive tells its files, the log tells its bytes
abbrev pub archived_bytes : Option (List ℕ → Option (List ℕ)) → ℕ → Option (ℕ → Option ℕ)
archived_bytes None size = None
archived_bytes (Some files) size = Some (archived_byte files size)

-- how many bytes a segment's file has from an offset on; what stands in it past the segment's end does not count
abbrev pub file_run : Option (List ℕ) → ℕ → ℕ → ℕ
file_run None size offset = 0
file_run (Some contents) size offset = min size (length contents) - offset

-- how many bytes from a position on one file has
abbrev pub archived_run : (List ℕ → Option (List ℕ)) → ℕ → ℕ → ℕ
archived_run files size at = if nat_lt at log_limit then file_run (segment_file files size at) size (at % size) else 0

-- a call that succeeds gives the longest run that one file has, up to the buffer
abbrev pub GivesLongest : Option (List ℕ → Option (List ℕ)) → ℕ → ℕ → List ℕ → Result ℕ Fail → Type 0
GivesLongest None size at buffer answer = Unit {0}
GivesLongest (Some files) size at buffer answer = IfOk answer (λ count. count ≡ min (length buffer) (archived_run files size at))

-- where the bytes of a log are told, they are bytes
abbrev pub AreToldBytes : Option (ℕ → Option ℕ) → Type 0
AreToldBytes told = IfSome told (λ byte_at. (at : ℕ) → IfSome (byte_at at) (λ byte. byte < 256))
