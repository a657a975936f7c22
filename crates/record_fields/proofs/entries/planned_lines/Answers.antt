use Rattle.std.proofs.Common.{◌≡◌, ◌+◌, ◌-◌, ℕ, suc, sym, subst, arith}
use Rattle.record_fields.specs.Fields.{planned_lines}
use Rattle.record_fields.proofs.Listed.{counted}
use Rattle.record_fields.proofs.entries.planned_lines.Goals as goal

pub loop-left-preserved : goal.loop-left-preserved
loop-left-preserved c =
    let text = c.args.text.now in
    let at = c.loop-left.at in
    let lines = c.loop-left.lines in
    let n = c.loop-left.left in
    let invariant = c.loop-left.invariant in
    let place = invariant.place in
    let few = invariant.few in
    let test = c.loop-left-test.true in
    let small = c.u16_at.auto in
    let one : n ≡ suc (n - 1) = omega arith in
    let next = counted text at n (n - 1) lines (planned_lines text 0 c.args.count) one invariant.so_far in
    record {
      place = omega arith;
      so_far = subst (λ (k : ℕ). lines + k + planned_lines text (at + 12) (n - 1) ≡ planned_lines text 0 c.args.count) (sym c.u16_at.ensures) next;
      few = omega arith;
    }
