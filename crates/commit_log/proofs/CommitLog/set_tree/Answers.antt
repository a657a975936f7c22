use Rattle.std.proofs.Common.{◌∙◌, get_or}
use Rattle.std.proofs.lemmas.List.{get_or_default}
use Rattle.pg_types.specs.declared.names.Xid.{Xid}
use Rattle.commit_log.specs.Log.{status_of, changed_at}
use Rattle.commit_log.proofs.Trees.{status_after-more, changed_after-more}
use Rattle.commit_log.proofs.CommitLog.set_tree.Goals as goal

pub set_one-requires-in-loop-sub : goal.set_one-requires-in-loop-sub
set_one-requires-in-loop-sub c =
    rw c.loop-sub.invariant.reserved (c.requires.below c.loop-sub.sub-index (record { 0 = 0 }) c.loop-sub-test.true)

pub loop-sub-preserved : goal.loop-sub-preserved
loop-sub-preserved c =
    let log = c.args.self.now in
    let at = c.loop-sub in
    let y : Xid = get_or c.args.subs.now at.sub-index (record { 0 = 0 }) in
    let is = get_or_default c.args.subs.now at.sub-index (record { 0 = 0 }) y c.loop-sub-test.true in
    record {
      reserved = c.set_one-in-loop-sub.ensures.reserved ∙ at.invariant.reserved;
      statuses = λ x. c.set_one-in-loop-sub.ensures.statuses x ∙ status_after-more (status_of log) (status_of at.self) c.args.xid c.args.subs.now at.sub-index y c.args.status c.loop-sub-test.true is x (at.invariant.statuses x);
      changed = λ n. c.set_one-in-loop-sub.ensures.changed n ∙ changed_after-more (changed_at log) (changed_at at.self) c.args.xid c.args.subs.now at.sub-index y c.args.at.0 c.loop-sub-test.true is n (at.invariant.changed n);
    }
