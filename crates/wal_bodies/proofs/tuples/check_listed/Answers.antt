use Rattle.std.proofs.Common.{◌≡◌, ◌-◌, ◌+◌, suc, sym, ◌∙◌, arith}
use Rattle.std.proofs.lemmas.Result.{err_from_is_err_and}
use Rattle.wal_bodies.proofs.Walks.{checked_done, checked_fault, checked_next}
use Rattle.wal_bodies.proofs.tuples.check_listed.Goals as goal

pub returns-in_err-end : goal.returns-in_err-end
returns-in_err-end c =
    let k : c.args.count - c.loop.counter ≡ suc (c.args.count - (c.loop.counter + 1)) = omega arith in
    let p = err_from_is_err_and c.from_residual.result c.from_residual.ensures.1 in
    rw (p.1, p.2)
    (sym (checked_fault c.args.bytes.now c.loop.at _ _ _ k (sym c.listed_at.ensures.exact ∙ c.in_err-end.was)) ∙ c.loop.invariant.leads)

pub loop-preserved : goal.loop-preserved
loop-preserved c =
    let k : c.args.count - c.loop.counter ≡ suc (c.args.count - (c.loop.counter + 1)) = omega arith in
    record {
      within = c.in_ok-end.ensures.inside;
      leads = checked_next c.args.bytes.now c.loop.at _ _ _ _ k (sym c.listed_at.ensures.exact ∙ c.in_ok-end.was) ∙ c.loop.invariant.leads;
    }

pub returns : goal.returns
returns c = sym (checked_done c.args.bytes.now c.loop.at (c.args.count - c.loop.counter) (omega arith)) ∙ c.loop.invariant.leads
