use Rattle.pg_types.specs.SegmentSizes.{sixteen_mebibytes}
use Rattle.scan_cases.proofs.nodes.node.Goals as goal

pub at_origin-requires-clause-segment_size : goal.at_origin-requires-clause-segment_size
at_origin-requires-clause-segment_size c = sixteen_mebibytes
