use Rattle.std.proofs.Common.{◌++◌, codes}
use Rattle.pg_types.specs.Names.{lsn_text}
use Rattle.session_model.specs.NodeSteps.{status_by}
use Rattle.reply_text.specs.Pieces.{readiness_text}
use Rattle.reply_text.proofs.Chained.{standing}
use Rattle.reply_text.proofs.status.push_standing.Goals as goal

pub returns : goal.returns
returns c = standing c.args.text.now.items c.push_position.new.text.items c.push_position-2.new.text.items c.push_readiness.new.text.items
    (codes "status tli=1 at=" ++ lsn_text c.args.status.now.at.0) (codes " min=") (lsn_text c.args.status.now.min.0)
    (readiness_text (status_by c.args.status.now))
    c.in_ok-push_position.ensures c.in_ok-push_position-2.ensures c.in_ok-push_readiness.ensures
