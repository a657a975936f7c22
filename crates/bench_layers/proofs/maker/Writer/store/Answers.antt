use Rattle.pg_types.specs.SegmentSizes.{sixteen_mebibytes}
use Rattle.bench_layers.proofs.maker.Writer.store.Goals as goal

pub new-name-requires-clause-size : goal.new-name-requires-clause-size
new-name-requires-clause-size c = sixteen_mebibytes
