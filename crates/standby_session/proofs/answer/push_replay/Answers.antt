use Rattle.wal_archive.specs.ArchiveLog.{archived_bytes}
use Rattle.standby_core.specs.View.{standby}
use Rattle.standby_session.proofs.Replies.{replays_told}
use Rattle.standby_session.proofs.answer.push_replay.Goals as goal

pub returns-in-Ok-push_replays-clause-told : goal.returns-in-Ok-push_replays-clause-told
returns-in-Ok-push_replays-clause-told g c =
    replays_told (archived_bytes (g.A.Archive.files c.args.archive.now) (standby c.args.node.now).segsize) c.args.count c.in-Ok.applied
    (standby c.args.node.now) (standby c.replay.new.node) c.in-Ok.last c.args.text.now.items c.push_replays.new.text.items c.is_refused.result
    c.in-Ok.ensures.told c.in-Ok-push_replays.ensures c.is_refused.ensures
