use Rattle.std.proofs.Common.{◌∙◌, ap, sym}
use Rattle.known_assigned.specs.Ids.{numbers}
use Rattle.known_assigned.specs.Known.{Tracked}
use Rattle.known_assigned.proofs.Steps.{running-pending_kept}
use Rattle.known_assigned.proofs.known.KnownAssigned.running.Goals as goal

pub returns-else-until-head-clause-known : goal.returns-else-until-head-clause-known
returns-else-until-head-clause-known c =
    c.pass_oldest-in-Pending.ensures.known
    ∙ running-pending_kept c.args.self.now.known c.args.head.now (numbers c.args.live.now) c.args.ended.0 c.in-Pending.until
    (sym (ap (λ (t : Tracked). t.known.mode) c.self.view_is) ∙ c.in-Pending.is) (sym c.if-is_overflowed.ensures) c.if-until-head.false
