use Rattle.std.proofs.Common.{◌≡◌, ◌+◌, ◌*◌, ◌≤◌, ◌-◌, length, ℕ, suc, sym, subst, arith}
use Rattle.record_fields.specs.Fields.{planned_lines}
use Rattle.record_fields.proofs.Listed.{lines_inside, others_inside}
use Rattle.record_fields.proofs.entries.FreezePlansIterator.next.Goals as goal

pub listed-requires : goal.listed-requires
listed-requires c =
    let p = c.self.inside in
    let fits = lines_inside p.text.now p.at p.lines p.count c.self.invariant.listed c.if-self-eq0.false in
    subst (λ (n : ℕ). p.lines + 2 * n ≤ length p.text.now) (sym c.u16_at-lines.ensures) fits

pub invariant_of-self : goal.invariant_of-self
invariant_of-self c =
    let p = c.self.inside in
    let plans = c.self.invariant.plans in
    let left : p.count ≡ suc (p.count - 1) = omega arith in
    let fits = others_inside p.text.now p.at p.lines p.count (p.count - 1) left c.self.invariant.listed in
    record {
      plans = omega arith;
      listed = subst (λ (n : ℕ). p.lines + 2 * n + 2 * planned_lines p.text.now (p.at + 12) (p.count - 1) ≤ length p.text.now)
          (sym c.u16_at-lines.ensures) fits;
    }
