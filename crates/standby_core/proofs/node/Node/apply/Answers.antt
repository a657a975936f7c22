use Rattle.std.proofs.Common.{◌∙◌, Ok, Err, sym, subst}
use Rattle.standby_core.specs.declared.types.Replayed.TheVariants.{Refused}
use Rattle.standby_core.specs.Steps.{GivenRedone, GivenReplays}
use Rattle.standby_core.specs.View.{standby}
use Rattle.standby_core.proofs.Replaying.{given_stopped, same_lsn}
use Rattle.standby_core.proofs.node.Node.apply.Goals as goal

pub returns-in-Err-Refused-clause-replays : goal.returns-in-Err-Refused-clause-replays
unfolding standby
returns-in-Err-Refused-clause-replays c =
    let node = c.args.self.now in
    let start = c.args.start in
    let end = c.args.end in
    let old = standby node in
    let new = standby c.redo.new.self in
    let redone = subst (λ why. GivenRedone node.reader start end (Err why) old new) c.in-Err-Refused.field-0-is c.in-Err-Refused.ensures.redone in
    subst (λ what. GivenReplays node.reader start end (Ok (Refused c.redo.new.self.at what)) old new) (sym c.in-Err-Refused.what-is)
    (given_stopped node.reader start end c.in-Err-Refused.what old new redone c.redo.new.self.at
    (c.redo.ensures.at ∙ sym (same_lsn node.reader.at node.at node.same_at)))
