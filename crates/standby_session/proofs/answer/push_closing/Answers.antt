use Rattle.standby_core.specs.View.{standby}
use Rattle.standby_session.proofs.Replies.{closing_anyhow}
use Rattle.standby_session.proofs.answer.push_closing.Goals as goal

pub returns-in-Ok-clause-told : goal.returns-in-Ok-clause-told
returns-in-Ok-clause-told c =
    closing_anyhow c.args.id c.close_scan-was_open.result (standby c.args.node.now) (standby c.close_scan-was_open.new.self)
    c.args.text.now.items c.push_closed.new.text.items c.close_scan-was_open.ensures.answer c.close_scan-was_open.ensures.closes
    c.in-Ok.ensures
