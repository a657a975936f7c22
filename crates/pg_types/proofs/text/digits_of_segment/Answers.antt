use Rattle.std.proofs.Common.{◌^◌, ◌/◌, ◌%◌, arith}
use Rattle.pg_types.specs.Names.{fixed_hex, segment_name_text}
use Rattle.pg_types.proofs.Hex.{length-fixed_hex, three_written}
use Rattle.pg_types.specs.SegmentSizes.{size_positive}
use Rattle.pg_types.proofs.Segments.{high_fits, low_fits, per_pos}
use Rattle.pg_types.proofs.text.digits_of_segment.Goals as goal

pub nonzero_div-per : goal.nonzero_div-per
nonzero_div-per c = size_positive c.args.segsize c.requires.size

pub nonzero_div-segment : goal.nonzero_div-segment
nonzero_div-segment c = per_pos c.args.segsize c.requires.size

pub nonzero_rem-segment : goal.nonzero_rem-segment
nonzero_rem-segment c = per_pos c.args.segsize c.requires.size

pub overflow_cast-segment-2 : goal.overflow_cast-segment-2
overflow_cast-segment-2 c = omega (arith, low_fits c.args.segsize c.requires.size c.args.segment)

pub overflow_cast-segment : goal.overflow_cast-segment
overflow_cast-segment c = omega (arith, high_fits c.args.segsize c.requires.size c.args.segment c.requires.below)

pub returns : goal.returns
unfolding segment_name_text
returns c =
    let per = 2 ^ 32 / c.args.segsize in
    three_written (fixed_hex 8 c.args.tli.0) (fixed_hex 8 (c.args.segment / per)) (fixed_hex 8 (c.args.segment % per)) _ _ _ _ _ _
    (length-fixed_hex 8 _) (length-fixed_hex 8 _) (length-fixed_hex 8 _) c.put_fixed_hex-3.array_long c.put_fixed_hex.ensures c.put_fixed_hex-2.ensures c.put_fixed_hex-3.ensures
