use Rattle.std.proofs.Common.{sym, ◌∙◌}
use Rattle.session_text.proofs.Digits.{unfit}
use Rattle.session_text.proofs.word.read_number.Goals as goal

pub returns-in-None-clause-none : goal.returns-in-None-clause-none
returns-in-None-clause-none c = λ n is. unfit c.args.word.now c.loop-byte.byte-index c.loop-byte.value n c.loop-byte-test.true c.loop-byte.invariant.value (sym c.next_value.ensures ∙ c.in-None.is) is
