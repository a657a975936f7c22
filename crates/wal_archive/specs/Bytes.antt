-- The log that an archive tells is made of bytes.
use Rattle.std.proofs.Common.{ℕ, ◌<◌, ◌%◌, List, [], ◌∷◌, zero, suc, Bool, true, false, cond, Option, None, Some, IfSome, arith, ltb}
use Rattle.std.specs.List.{slice_get}
use Rattle.pg_types.specs.Bytes.{AreBytes}
use Rattle.outside.specs.Archive.{HaveBytes}
use Rattle.outside.specs.Log.{log_limit}
use Rattle.wal_archive.specs.ArchiveLog.{AreToldBytes, archived_byte, archived_bytes, byte_of_file, segment_file}

byte_at : (contents : List ℕ) (offset : ℕ) → AreBytes contents → IfSome (slice_get contents offset) (λ byte. byte < 256)
byte_at [] offset all = tt
byte_at (b ∷ bytes) zero all = all zero 0 (omega arith)
byte_at (b ∷ bytes) (suc offset) all = byte_at bytes offset (λ k d h. all (suc k) d (omega arith))

in_file : (file : Option (List ℕ)) (offset : ℕ) → IfSome file AreBytes → IfSome (byte_of_file file offset) (λ byte. byte < 256)
in_file None offset all = tt
in_file (Some contents) offset all = byte_at contents offset all

-- a byte of the log is below 256
pub archived_byte_below : (files : List ℕ → Option (List ℕ)) (size at : ℕ) → HaveBytes (Some files) → IfSome (archived_byte files size at) (λ byte. byte < 256)
archived_byte_below files size at have = by (ltb at log_limit)
  where
    by : (b : Bool) → IfSome (cond b (byte_of_file (segment_file files size at) (at % size)) None) (λ byte. byte < 256)
    by true = in_file (segment_file files size at) (at % size) (have _)
    by false = tt

pub archived_bytes_below : (told : Option (List ℕ → Option (List ℕ))) (size : ℕ) → HaveBytes told → AreToldBytes (archived_bytes told size)
archived_bytes_below None size have = tt
archived_bytes_below (Some files) size have = λ at. archived_byte_below files size at have
