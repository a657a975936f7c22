use Rattle.std.proofs.Common.{◌≡◌}
use Rattle.subtrans.specs.Parents.{topmost_of}
use Rattle.subtrans.proofs.Subtrans.topmost.Given as goal

abbrev pub invariant-loop-parent : goal.invariant-loop-parent
invariant-loop-parent l = topmost_of l.self.pairs l.fn.xid.0 ≡ topmost_of l.self.pairs l.x

abbrev pub decreases-loop-parent : goal.decreases-loop-parent
decreases-loop-parent l = l.x
