use Rattle.std.proofs.Common.{true, false, cond, refl, ◌≡◌, ◌≤◌, ◌-◌, ◌+◌, ◌∙◌, ap, sym, arith, length, nat_le}
use Rattle.std.proofs.lemmas.Bool.{le-leb, leb-true}
use Rattle.std.proofs.lemmas.List.FromFn.{length-range_with_len}
use Rattle.known_assigned.specs.Ids.{is_among}
use Rattle.known_assigned.proofs.Ordered.{length-without_next, list_all-weaker, without-high}
use Rattle.known_assigned.proofs.running_set.RunningSet.count_absent.Goals as goal
use Rattle.known_assigned.proofs.running_set.RunningSet.count_absent.Goals.{then-not-contains, else-not-contains}

pub returns-then-last-low : goal.returns-then-last-low
returns-then-last-low c =
    let low = c.args.low in
    let ids = c.args.self.now.xids in
    let all = list_all-weaker (λ x. nat_le x c.last.result) (λ x. nat_le x low) (λ x h. le-leb x low (omega (arith, leb-true x c.last.result h, c.if-last-low.true))) ids c.last.ensures in
    c.saturating_sub.ensures
    ∙ sym (ap length (without-high low (low + 1) (c.args.high - low) ids all (omega arith)) ∙ length-range_with_len (low + 1) (c.args.high - low))

pub loop-below-preserved : goal.loop-below-preserved
loop-below-preserved c =
    let more = length-without_next c.loop-below.below c.args.high c.args.self.now.xids c.loop-below-test.true in
    let ids = c.args.self.now.xids in
    let step : c.if-not-contains.count ≡ c.loop-below.count + cond (is_among (c.loop-below.below + 1) ids) 0 1 =
    elim c.if-not-contains.branch [
      | then-not-contains w ↦
          let absent : is_among (c.loop-below.below + 1) ids ≡ false = sym c.contains.ensures ∙ w.if-not-contains.true in
          w.count-is ∙ rw absent refl
      | else-not-contains w ↦
          let there : is_among (c.loop-below.below + 1) ids ≡ true = sym c.contains.ensures ∙ w.if-not-contains.false in
          w.count-is ∙ rw there (omega arith)
    ] in
    let most : cond (is_among (c.loop-below.below + 1) ids) 0 1 ≤ 1 = elim (is_among (c.loop-below.below + 1) ids) as (λ b. cond b 0 1 ≤ 1) [ true ↦ omega arith | false ↦ omega arith ] in
    record {
      counted = omega (arith, c.loop-below.invariant.counted, more, step);
      small = omega (arith, c.loop-below.invariant.small, step, most);
    }
