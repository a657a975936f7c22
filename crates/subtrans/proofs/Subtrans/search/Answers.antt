use Rattle.std.proofs.Common.{◌≡◌, ◌<◌, length, take, drop, sym, ap, ◌∙◌, subst, arith}
use Rattle.std.proofs.lemmas.List.{get_or_read}
use Rattle.subtrans.specs.declared.Pair.{Pair}
use Rattle.subtrans.specs.Parents.{Parents, before_sub, from_sub, after_sub, IsFound}
use Rattle.subtrans.proofs.Order.{found_after, absent_after}
use Rattle.subtrans.proofs.Subtrans.search.Goals as goal
use Rattle.subtrans.proofs.Subtrans.search.Goals.{else-at-len-via-then-at-len+else-index-x, else-at-len-via-else-at-len}

pub returns-then-index-x : goal.returns-then-index-x
returns-then-index-x c =
    let qs = c.self.inside.pairs.items in
    let at = c.place-at.result in
    let below : take at qs ≡ before_sub qs c.args.x = subst (λ (v : Parents). take at v.pairs ≡ before_sub v.pairs c.args.x) (sym c.self.view_is) c.place-at.ensures.below in
    let from : drop at qs ≡ from_sub qs c.args.x = subst (λ (v : Parents). drop at v.pairs ≡ from_sub v.pairs c.args.x) (sym c.self.view_is) c.place-at.ensures.rest in
    let within : at < length qs = omega (arith, c.self.inside.pairs.ok) in
    let sub = λ (e : Pair). sym (ap (λ (p : Pair). p.sub) (get_or_read qs at c.index.result.now within c.index.ensures e)) ∙ c.if-index-x.true in
    let found : IsFound qs c.args.x at =
    record {
      within = within;
      sub = sub;
      before = below;
      after = found_after qs c.args.x at c.index.result.now c.self.invariant from within (sub c.index.result.now);
    } in
    rw (← c.self.view_is) found

pub returns-else-at-len : goal.returns-else-at-len
returns-else-at-len c =
    let qs = c.self.inside.pairs.items in
    let at = c.place-at.result in
    let from : drop at qs ≡ from_sub qs c.args.x = subst (λ (v : Parents). drop at v.pairs ≡ from_sub v.pairs c.args.x) (sym c.self.view_is) c.place-at.ensures.rest in
    let after =
    elim c.else-at-len.branch as (λ _. drop at qs ≡ after_sub qs c.args.x) [
      | else-at-len-via-then-at-len+else-index-x w ↦ absent_after qs c.args.x at w.index.result.now c.self.invariant from (λ _ is. w.if-index-x.false (ap (λ (p : Pair). p.sub) w.index.ensures ∙ is))
      | else-at-len-via-else-at-len w ↦ absent_after qs c.args.x at (record { sub = 0; parent = 0 }) c.self.invariant from (λ within _. absurd (omega (arith, within, c.self.inside.pairs.ok)))
    ] in
    record {
      within = c.place-at.ensures.bound;
      before = c.place-at.ensures.below;
      after = subst (λ (v : Parents). drop at v.pairs ≡ after_sub v.pairs c.args.x) c.self.view_is after;
    }
