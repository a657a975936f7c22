use Rattle.heap_redo.specs.TupleHeads.{Head, frozen}
use Rattle.std.proofs.Common.{arith}
use Rattle.std.proofs.lemmas.Grind.{common_steps}
use Rattle.heap_redo.proofs.line.freeze_tuple.Goals as goal

pub returns-in_err-header-clause-answer : goal.returns-in_err-header-clause-answer
returns-in_err-header-clause-answer c =
    let refused = c.in_err-header.ensures.err (λ (head : Head). frozen c.args.xmax c.args.mask2 c.args.mask head) in grind (arith, common_steps, refused)
