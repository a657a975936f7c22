use Rattle.pg_types.specs.SegmentSizes.{one_mebibyte}
use Rattle.wal_cases.proofs.archives.fails.Goals as goal

pub plain-log-requires : goal.plain-log-requires
plain-log-requires g c = one_mebibyte
