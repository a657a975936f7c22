use Rattle.std.proofs.Common.{◌≡◌, ◌-◌, ◌+◌, ◌∙◌, suc, length, sym, arith}
use Rattle.wal_record.proofs.Walking.{done-closed, done-full, done-false, walked_from-done, walked_from-zero, walked_from-none, walked_from-next}
use Rattle.wal_record.proofs.view.walk.Goals as goal
use Rattle.wal_record.proofs.view.walk.Goals.{else-loop-test, then-loop-test+then-seen, then-seen-via-then-seen, then-seen-via-else-seen+then-rest-seen}

pub returns-in_err-next : goal.returns-in_err-next
returns-in_err-next c =
    let k : length c.args.text.now - c.loop.counter ≡ suc (length c.args.text.now - (c.loop.counter + 1)) = omega arith in
    rw c.from_residual.ensures
    (sym (walked_from-none _ _ c.loop.seen c.loop.rest.now k (done-false c.loop.seen c.loop.rest.now c.if-seen.false c.if-rest-seen.false) (sym c.in_err-next.ensures)) ∙ c.loop.invariant.leads)

pub loop-preserved : goal.loop-preserved
loop-preserved c =
    let k : length c.args.text.now - c.loop.counter ≡ suc (length c.args.text.now - (c.loop.counter + 1)) = omega arith in
    record {
      bounded = omega arith;
      leads = rw c.after-seen.ensures.exact
          (sym (walked_from-next _ _ c.loop.seen c.loop.rest.now c.in_ok-next.next c.in_ok-next.behind.now k (done-false c.loop.seen c.loop.rest.now c.if-seen.false c.if-rest-seen.false) (sym c.in_ok-next.ensures)) ∙ c.loop.invariant.leads);
    }

pub returns : goal.returns
returns c =
    elim c.loop-test.branch [
      | else-loop-test w ↦ sym (walked_from-zero (length c.args.text.now - c.loop.counter) c.loop.seen c.loop.rest.now (omega arith)) ∙ c.loop.invariant.leads
      | then-loop-test+then-seen w ↦
          elim w.then-seen.branch [
            | then-seen-via-then-seen w' ↦ sym (walked_from-done (length c.args.text.now - c.loop.counter) c.loop.seen c.loop.rest.now (done-closed c.loop.seen c.loop.rest.now w'.if-seen.true)) ∙ c.loop.invariant.leads
            | then-seen-via-else-seen+then-rest-seen w' ↦ sym (walked_from-done (length c.args.text.now - c.loop.counter) c.loop.seen c.loop.rest.now (done-full c.loop.seen c.loop.rest.now w'.if-rest-seen.true)) ∙ c.loop.invariant.leads
          ]
    ]
