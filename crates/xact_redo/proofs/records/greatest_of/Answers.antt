use Rattle.std.proofs.Common.{◌≡◌, ◌∙◌, ap, sym, arith, fold, max}
use Rattle.known_assigned.specs.Ids.{numbers}
use Rattle.xact_redo.proofs.records.greatest_of.Goals as goal

pub returns : goal.returns
returns c =
    let start : c.args.first.0 ≡ max 0 c.args.first.0 = omega arith in
    sym (ap (λ l. fold max c.loop-xid.most (numbers l)) c.in-None.ensures.steps.0)
    ∙ c.loop-xid.invariant
    ∙ ap (λ m. fold max m (numbers c.args.rest)) start
