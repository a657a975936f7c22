use Rattle.std.proofs.Common.{◌≡◌, ◌-◌, ◌+◌, ◌∙◌, ap, sym, arith, length}
use Rattle.known_assigned.specs.Ids.{ids_above, with_ids, without}
use Rattle.known_assigned.proofs.Ordered.{ids_above-next, length-without_next, without-above}
use Rattle.known_assigned.proofs.running_set.RunningSet.add_range.Goals as goal

pub loop-below-preserved : goal.loop-below-preserved
loop-below-preserved c =
    let low = c.loop-below.below in
    let high = c.args.high in
    let ids = c.loop-below.self.xids in
    let more = length-without_next low high ids c.loop-below-test.true in
    let same : length (without c.add.new.self.xids (ids_above (low + 1) high)) ≡ length (without ids (ids_above (low + 1) high)) =
    ap (λ l. length (without l (ids_above (low + 1) high))) c.add.ensures.xids
    ∙ ap length (without-above (low + 1) (low + 1 + 1) (high - (low + 1)) ids (omega arith)) in
    record {
      xids =
          ap (with_ids (ids_above (low + 1) high)) c.add.ensures.xids
          ∙ sym (ap (λ l. with_ids l ids) (ids_above-next low high c.loop-below-test.true))
          ∙ c.loop-below.invariant.xids;
      room = omega (arith, c.loop-below.invariant.room, c.add.ensures.spare, more, same);
    }
