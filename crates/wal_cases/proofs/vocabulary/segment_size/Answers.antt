use Rattle.pg_types.specs.SegmentSizes.{one_gibibyte, one_mebibyte, sixteen_mebibytes}
use Rattle.wal_cases.proofs.vocabulary.segment_size.Goals as goal

pub returns-in-text : goal.returns-in-text
returns-in-text c = one_mebibyte

pub returns-in-text-2 : goal.returns-in-text-2
returns-in-text-2 c = sixteen_mebibytes

pub returns-in-text-3 : goal.returns-in-text-3
returns-in-text-3 c = one_gibibyte
