use Rattle.std.proofs.Common.{◌≡◌, sym}
use Rattle.xact_redo.specs.State.{transactions}
use Rattle.standby_core.specs.Standby.{node_status}
use Rattle.standby_core.specs.View.{standby}
use Rattle.standby_core.proofs.Replaying.{same_lsn}
use Rattle.standby_core.proofs.node.Node.status.Goals as goal

pub returns : goal.returns
unfolding standby node_status transactions
returns c =
    let at : c.args.self.now.at ≡ c.args.self.now.reader.at = sym (same_lsn c.args.self.now.reader.at c.args.self.now.at c.args.self.now.same_at) in
    cc
