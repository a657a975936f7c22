use Rattle.pg_types.specs.SegmentSizes.{sixteen_mebibytes}
use Rattle.bench_layers.proofs.reading.read.Goals as goal

pub plain-log-requires : goal.plain-log-requires
plain-log-requires c = sixteen_mebibytes

pub start-requires : goal.start-requires
start-requires c = sixteen_mebibytes
