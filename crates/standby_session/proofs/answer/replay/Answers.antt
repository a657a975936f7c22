use Rattle.std.proofs.Common.{◌≡◌, ℕ, ◌+◌, ◌-◌, ◌<◌, refl, ap, sym, ◌∙◌, arith, if◌then◌else◌}
use Rattle.wal_archive.specs.ArchiveLog.{archived_bytes}
use Rattle.standby_core.specs.View.{standby}
use Rattle.session_model.specs.Events.{is_applied}
use Rattle.session_model.specs.NodeSteps.{replay_reply}
use Rattle.standby_session.proofs.Steps.{applied_more, applied_none, counts_early, replays_up_to, same_log, stops_early, stops_last}
use Rattle.standby_session.proofs.answer.replay.Goals as goal

pub records-init : goal.records-init
records-init g c = record {
  told = applied_none (archived_bytes (g.A.Archive.files c.args.archive.now) (standby c.args.node.now).segsize) (standby c.args.node.now);
  segsize = refl;
  same_files = refl;
  faults = refl;
}

pub records-preserved : goal.records-preserved
records-preserved g c =
    let inv = c.records.invariant in
    let is = c.in-Ok.ensures in
    let bytes = archived_bytes (g.A.Archive.files c.args.archive.now) (standby c.args.node.now).segsize in
    let later = same_log (g.A.Archive.files c.records.archive) (g.A.Archive.files c.args.archive.now) (standby c.args.node.now).segsize (standby c.records.node).segsize inv.segsize inv.same_files in
    let told = rw inv.segsize at is.told in
    record {
      told = applied_more bytes _ c.records.applied (standby c.args.node.now) (standby c.records.node) (standby c.replay_one.new.self) c.in-Ok.last later
          (sym c.is_applied.ensures ∙ c.if-not-is_applied.false) inv.told is.stays is.answer;
      segsize = is.segsize ∙ inv.segsize;
      same_files = told ∙ inv.same_files;
      faults = is.uncounted (λ e. cc) ∙ inv.faults;
    }

pub returns-then-not-is_applied-clause-told : goal.returns-then-not-is_applied-clause-told
returns-then-not-is_applied-clause-told g c =
    let inv = c.records.invariant in
    let is = c.in-Ok.ensures in
    let bytes = archived_bytes (g.A.Archive.files c.args.archive.now) (standby c.args.node.now).segsize in
    let later = same_log (g.A.Archive.files c.records.archive) (g.A.Archive.files c.args.archive.now) (standby c.args.node.now).segsize (standby c.records.node).segsize inv.segsize inv.same_files in
    let not_applied = sym c.is_applied.ensures ∙ c.if-not-is_applied.true in
    let lt : c.records.applied < c.args.count = omega arith in
    replays_up_to bytes _ c.records.applied c.args.count c.records.applied (standby c.args.node.now) (standby c.records.node)
    (standby c.replay_one.new.self) c.in-Ok.last later
    (stops_early (is_applied (replay_reply c.in-Ok.last)) c.records.applied c.args.count not_applied lt)
    (counts_early (is_applied (replay_reply c.in-Ok.last)) c.records.applied c.args.count not_applied) inv.told is.stays is.answer

pub returns-in-Ok-replay_one-clause-told : goal.returns-in-Ok-replay_one-clause-told
returns-in-Ok-replay_one-clause-told g c =
    let inv = c.records.invariant in
    let is = c.in-Ok-replay_one.ensures in
    let bytes = archived_bytes (g.A.Archive.files c.args.archive.now) (standby c.args.node.now).segsize in
    let later = same_log (g.A.Archive.files c.records.archive) (g.A.Archive.files c.args.archive.now) (standby c.args.node.now).segsize (standby c.records.node).segsize inv.segsize inv.same_files in
    let last = is_applied (replay_reply c.in-Ok-replay_one.last) in
    let all : c.records.applied + 1 ≡ c.args.count = omega arith in
    let before : c.args.count - 1 ≡ c.records.applied = omega arith in
    replays_up_to bytes _ c.records.applied c.args.count c.applied_by.result (standby c.args.node.now) (standby c.records.node)
    (standby c.replay_one-2.new.self) c.in-Ok-replay_one.last later
    (stops_last last c.records.applied c.args.count all)
    (c.applied_by.ensures ∙ ap (λ (n : ℕ). if last then c.args.count else n) before) inv.told is.stays is.answer
