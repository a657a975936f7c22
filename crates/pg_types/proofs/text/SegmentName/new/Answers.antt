use Rattle.std.proofs.Common.{ℕ, List, sym, subst}
use Rattle.std.specs.Str.{IsAscii}
use Rattle.pg_types.proofs.Hex.{segment_name_IsAscii}
use Rattle.pg_types.proofs.text.SegmentName.new.Goals as goal

pub invariant_of-result : goal.invariant_of-result
invariant_of-result c = subst (λ (text : List ℕ). IsAscii text) (sym c.digits_of_segment-text.ensures) (segment_name_IsAscii c.args.tli.0 c.args.segment c.args.segsize)
