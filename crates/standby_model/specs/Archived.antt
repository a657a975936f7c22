-- What the log's reader is told: the bytes of the archived segments of timeline 1, at 16 MiB a segment, of system 7.
use Rattle.std.specs.Prelude.{ℕ, List, Option}
use Rattle.wal_archive.specs.ArchiveLog.{archived_byte}
use Rattle.wal_reader.specs.Told.{Told}

abbrev pub segment_size : ℕ
segment_size = 16777216

abbrev pub told_by : (List ℕ → Option (List ℕ)) → Told
told_by files = record { byte = archived_byte files segment_size; owner = λ at. 1; system = 7; segsize = segment_size }
