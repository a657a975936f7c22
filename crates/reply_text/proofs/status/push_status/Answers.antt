use Rattle.std.proofs.Common.{◌++◌, ap, codes}
use Rattle.std.specs.Fmt.{decimal}
use Rattle.pg_types.specs.Names.{lsn_text}
use Rattle.session_model.specs.Texts.{backup_text, reply_text, state_text}
use Rattle.reply_text.proofs.Chained.{status}
use Rattle.reply_text.proofs.status.push_status.Goals as goal

pub returns : goal.returns
unfolding reply_text
returns c = let now = c.args.status.now in
    status c.args.text.now.items c.push_standing.new.text.items c.push_numbered.new.text.items c.extend_from_slice.new.self.items c.push.new.self.items
    (codes "status tli=1 at=" ++ lsn_text now.at.0 ++ codes " min=" ++ lsn_text now.min.0)
    (codes " backup=") (backup_text now.awaited) (codes " state=") (state_text now.state)
    (codes " scans=") (decimal c.from.result) (decimal now.scans) (codes " promoted=no")
    (ap decimal c.from.ensures)
    c.in_ok-push_standing.ensures c.in_ok-push_numbered.ensures c.in_ok-extend_from_slice.ensures.items c.in_ok-push.ensures.items
