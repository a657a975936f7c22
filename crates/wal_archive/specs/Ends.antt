-- No byte at or past the last position is told.
use Rattle.std.proofs.Common.{ℕ, ◌%◌, List, Bool, cond, Option, None, Some, ap}
use borrow.Author.Tests.{le-ltb}
use Rattle.outside.specs.Log.{EndsAtLimit, log_limit}
use Rattle.wal_archive.specs.ArchiveLog.{archived_bytes, byte_of_file, segment_file}

pub archived_bytes_end : (told : Option (List ℕ → Option (List ℕ))) (size : ℕ) → EndsAtLimit (archived_bytes told size)
archived_bytes_end None size = tt
archived_bytes_end (Some files) size = λ at past. ap (λ (b : Bool). cond b (byte_of_file (segment_file files size at) (at % size)) None) (le-ltb at log_limit past)
