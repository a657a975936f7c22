use Rattle.std.proofs.Common.{Ok, sym, subst}
use Rattle.wal_archive.specs.ArchiveLog.{archived_bytes}
use Rattle.standby_core.specs.View.{ReplaysTold, standby}
use Rattle.standby_core.specs.Replay.{ReplaysSome}
use Rattle.standby_core.proofs.Replaying.{Reads, end_replays_some, record_replayed, record_replays_some, refusal_replayed, refusal_replays_some}
use Rattle.standby_core.proofs.node.Node.replay_one.Goals as goal

pub returns-in-Ok-Record-clause-answer : goal.returns-in-Ok-Record-clause-answer
unfolding standby
returns-in-Ok-Record-clause-answer g c =
    let node = c.args.self.now in
    let told = archived_bytes (g.A.Archive.files c.args.archive.now) node.segsize in
    record_replayed told node c.read.new.self (standby c.apply.new.self) c.in-Ok-Record.start c.in-Ok-Record.end c.apply.result
    (subst (λ a. Reads told node c.read.new.self (Ok a)) c.in-Ok-Record.field-0-is c.in-Ok-Record.ensures.answer) c.read.ensures.others c.read.ensures.still.prev c.apply.ensures.replays c.apply.ensures.kept

pub returns-in-Err-clause-answer : goal.returns-in-Err-clause-answer
unfolding standby
returns-in-Err-clause-answer g c =
    let node = c.args.self.now in
    let told = archived_bytes (g.A.Archive.files c.args.archive.now) node.segsize in
    subst (λ r. ReplaysTold told r (standby node) (standby c.read.new.self)) (sym c.unread.ensures)
    (refusal_replayed told node c.read.new.self c.in-Err.fault c.in-Err.ensures.answer c.read.ensures.others)

pub returns-in-Ok-Record-clause-some : goal.returns-in-Ok-Record-clause-some
returns-in-Ok-Record-clause-some g c =
    record_replays_some (standby c.args.self.now) (standby c.read.new.self) (standby c.apply.new.self) c.read.new.self.reader c.in-Ok-Record.start c.in-Ok-Record.end
    c.apply.result c.read.ensures.others c.apply.ensures.replays

pub returns-in-Ok-AtEnd-clause-some : goal.returns-in-Ok-AtEnd-clause-some
unfolding standby
returns-in-Ok-AtEnd-clause-some g c =
    end_replays_some (standby c.args.self.now) (standby c.read.new.self) c.in-Ok-AtEnd.lsn c.in-Ok-AtEnd.why c.read.ensures.others
    (rw c.in-Ok-AtEnd.field-0-is at c.in-Ok-AtEnd.ensures.bears)

pub returns-in-Err-clause-some : goal.returns-in-Err-clause-some
unfolding standby
returns-in-Err-clause-some g c =
    subst (λ r. ReplaysSome r (standby c.args.self.now) (standby c.read.new.self)) (sym c.unread.ensures)
    (refusal_replays_some (standby c.args.self.now) (standby c.read.new.self) c.in-Err.fault c.read.ensures.others c.in-Err.ensures.bears)
