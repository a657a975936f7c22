use Rattle.std.proofs.Common.{◌≡◌, ◌++◌, subst}
use Rattle.standby_core.specs.declared.types.NodeStatus.{NodeStatus}
use Rattle.standby_core.specs.View.{standby}
use Rattle.session_model.specs.Events.{Stands}
use Rattle.session_model.specs.NodeSteps.{status_by}
use Rattle.session_model.specs.Texts.{reply_text}
use Rattle.standby_session.proofs.Replies.{standing_anyhow}
use Rattle.standby_session.proofs.answer.push_standing.Goals as goal

pub returns-in-Ok : goal.returns-in-Ok
returns-in-Ok c =
    standing_anyhow (standby c.args.node.now) c.args.text.now.items c.push_status.new.text.items
    (subst (λ (s : NodeStatus). c.push_status.new.text.items ≡ c.args.text.now.items ++ reply_text (Stands (status_by s))) c.status.ensures c.in-Ok.ensures)
