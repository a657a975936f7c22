use Rattle.std.proofs.Common.{◌≡◌, get_or, ap, subst}
use Rattle.subtrans.specs.Parents.{Parents, InOrder}
use Rattle.subtrans.proofs.Order.{topmost_of-found, topmost_of-absent}
use Rattle.subtrans.proofs.Subtrans.parent.Goals as goal

pub returns-in-Ok-clause-parent : goal.returns-in-Ok-clause-parent
returns-in-Ok-clause-parent c =
    let qs = c.args.self.now.pairs in
    let same : c.self.inside.pairs.items ≡ qs = ap (λ (p : Parents). p.pairs) c.self.view_is in
    let order : InOrder qs = subst InOrder same c.self.invariant in
    let is : c.index.result.now ≡ get_or qs c.in-Ok.at c.index.result.now = rw (← same) c.index.ensures in
    rw is (topmost_of-found qs c.args.x c.in-Ok.at c.index.result.now order c.in-Ok.ensures)

pub returns-in-Err-clause-parent : goal.returns-in-Err-clause-parent
returns-in-Err-clause-parent c = topmost_of-absent c.args.self.now.pairs c.args.x c.in-Err.field-0 c.in-Err.ensures
