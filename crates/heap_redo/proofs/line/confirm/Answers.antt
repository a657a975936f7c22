use Rattle.heap_redo.specs.TupleHeads.{Head, pointing_to}
use Rattle.std.proofs.Common.{arith}
use Rattle.std.proofs.lemmas.Grind.{common_steps}
use Rattle.heap_redo.proofs.line.confirm.Goals as goal

pub returns-in_err-header-clause-answer : goal.returns-in_err-header-clause-answer
returns-in_err-header-clause-answer c =
    let refused = c.in_err-header.ensures.err (λ (head : Head). pointing_to c.args.block c.args.line head) in grind (arith, common_steps, refused)
