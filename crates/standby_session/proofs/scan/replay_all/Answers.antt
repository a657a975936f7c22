use Rattle.std.proofs.Common.{ℕ, refl, ap, ◌∙◌, arith}
use Rattle.wal_archive.specs.ArchiveLog.{archived_bytes}
use Rattle.standby_core.specs.View.{standby}
use Rattle.standby_session.proofs.Scanning.{replay_ends, replay_more, replay_none, replay_refused}
use Rattle.standby_session.proofs.scan.replay_all.Goals as goal

pub records-init : goal.records-init
records-init g c =
    let node = standby c.args.node.now in
    record {
      told = replay_none (archived_bytes (g.A.Archive.files c.args.archive.now) node.segsize) node;
      same_log = refl;
      faults = refl;
    }

pub records-preserved : goal.records-preserved
records-preserved g c =
    let inv = c.records.invariant in
    let is = c.in-Ok-Applied.ensures in
    let new = standby c.replay_one.new.self in
    let answer = rw c.in-Ok-Applied.field-0-is at is.answer in
    record {
      told = replay_more _ _ _ (standby c.records.node) new _ _ _ inv.same_log inv.told answer;
      same_log = ap (λ (size : ℕ). archived_bytes (g.A.Archive.files c.replay_one.new.archive) size) is.segsize ∙ is.told ∙ inv.same_log;
      faults = is.uncounted (λ e. cc) ∙ inv.faults;
    }

pub records-smaller : goal.records-smaller
records-smaller g c =
    let onward = rw c.in-Ok-Applied.field-0-is at c.in-Ok-Applied.ensures.onward in
    omega (arith, onward.0, onward.1)

pub returns-in-Ok-AtEnd-clause-told : goal.returns-in-Ok-AtEnd-clause-told
returns-in-Ok-AtEnd-clause-told g c =
    let inv = c.records.invariant in
    let is = c.in-Ok-AtEnd.ensures in
    replay_ends _ _ _ (standby c.records.node) (standby c.replay_one.new.self) _ _ inv.same_log inv.told
    (rw c.in-Ok-AtEnd.field-0-is at is.stays) (rw c.in-Ok-AtEnd.field-0-is at is.answer)

pub returns-in-Ok-Refused-clause-told : goal.returns-in-Ok-Refused-clause-told
returns-in-Ok-Refused-clause-told g c =
    let inv = c.records.invariant in
    let is = c.in-Ok-Refused.ensures in
    replay_refused _ _ _ (standby c.records.node) (standby c.replay_one.new.self) c.in-Ok-Refused.lsn c.in-Ok-Refused.what inv.same_log inv.told
    (rw c.in-Ok-Refused.field-0-is at is.stays) (rw c.in-Ok-Refused.field-0-is at is.answer)
