use Rattle.standby_core.specs.View.{standby}
use Rattle.standby_session.proofs.Replies.{opening_anyhow}
use Rattle.standby_session.proofs.Steps.{opens_same}
use Rattle.standby_session.proofs.answer.push_opening.Goals as goal

pub returns-in-Ok-push_opened-clause-told : goal.returns-in-Ok-push_opened-clause-told
returns-in-Ok-push_opened-clause-told c =
    opening_anyhow c.args.table.now (standby c.args.node.now) (standby c.open_scan.new.self) c.in-Ok.opened c.args.text.now.items
    c.push_opened.new.text.items c.in-Ok.ensures.opens
    (opens_same c.args.table.now (standby c.args.node.now) (standby c.open_scan.new.self) c.in-Ok.opened c.in-Ok.ensures.opens)
    c.in-Ok-push_opened.ensures
