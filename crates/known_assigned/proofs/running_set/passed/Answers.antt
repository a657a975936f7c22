use Rattle.std.proofs.Common.{rules, ◌≡◌, ◌<◌, ◌≤◌, ◌⊎◌, ◌∙◌, sym, ap, arith, inl, inr, false, get_or, length, refl, nat_lt}
use Rattle.std.proofs.lemmas.Bool.{ltb-true, ltb-false, both_ways}
use Rattle.std.proofs.lemmas.List.{get_or_default}
use Rattle.known_assigned.specs.declared.running_set.Slot.{Slot}
use Rattle.known_assigned.proofs.Slotted.{ended-passed, few-marked, filter-passed, filter-pass_over, is_rising-set, no_slot}
use Rattle.known_assigned.proofs.running_set.passed.Goals as goal
use Rattle.known_assigned.proofs.running_set.passed.Goals.{then-not-index, else-not-index}

-- the place that is passed has ended, or is below the oldest id
pub loop-at-preserved : goal.loop-at-preserved
loop-at-preserved c =
    let slots = c.loop-at.slots.items in
    let at = c.loop-at.at in
    let within : at < length slots = search rules in
    let read : c.index.result.now ≡ get_or slots at no_slot = c.index.ensures ∙ get_or_default slots at c.index.result.now no_slot within in
    let written : c.index_mut.result.now ≡ get_or slots at no_slot = c.index_mut.ensures.value ∙ get_or_default slots at c.index_mut.result.now no_slot within in
    let v : Slot = record { xid = c.index_mut.result.now.xid; live = false } in
    let same : (get_or slots at no_slot).xid ≡ v.xid = ap (λ (s : Slot). s.xid) (sym written) in
    let why : ((get_or slots at no_slot).live ≡ false) ⊎ ((get_or slots at no_slot).xid < c.args.oldest) =
    elim c.if-not-index.branch [
      | then-not-index w ↦ inl (ap (λ (s : Slot). s.live) (sym read) ∙ w.if-not-index.true)
      | else-not-index w ↦
          let again = w.index-else-not-index.ensures ∙ get_or_default slots at w.index-else-not-index.result.now no_slot within in
          inr (ltb-true (get_or slots at no_slot).xid c.args.oldest (ap (λ (s : Slot). nat_lt s.xid c.args.oldest) (sym again) ∙ sym w.value-is ∙ c.if-index-oldest.true))
    ] in
    record {
      rising = is_rising-set slots at no_slot v c.loop-at.invariant.rising within same;
      within = search rules;
      ended = ended-passed slots at v within refl c.loop-at.invariant.ended;
      ids = filter-passed c.args.oldest slots at no_slot v within refl why ∙ c.loop-at.invariant.ids;
      onward = omega (arith, c.loop-at.invariant.onward);
      marked = omega (arith, c.loop-at.invariant.marked, c.loop-at.invariant.onward, few-marked slots at v within);
      len = c.loop-at.invariant.len;
      capacity = c.loop-at.invariant.capacity;
    }

-- the place that is left is live and not below the oldest id
pub returns-else-index-oldest-clause-ids : goal.returns-else-index-oldest-clause-ids
returns-else-index-oldest-clause-ids c =
    let slots = c.loop-at.slots.items in
    let at = c.loop-at.at in
    let within : at < length slots = search rules in
    let high : c.args.oldest ≤ (get_or slots at no_slot).xid =
    elim c.if-not-index.branch [
      | then-not-index w ↦ absurd (both_ways _ c.if-index-oldest.false (w.value-is ∙ rw w.if-not-index.true refl))
      | else-not-index w ↦
          let again = w.index-else-not-index.ensures ∙ get_or_default slots at w.index-else-not-index.result.now no_slot within in
          ltb-false (get_or slots at no_slot).xid c.args.oldest (ap (λ (s : Slot). nat_lt s.xid c.args.oldest) (sym again) ∙ sym w.value-is ∙ c.if-index-oldest.false)
    ] in
    sym (filter-pass_over c.args.oldest slots at no_slot c.loop-at.invariant.rising c.loop-at.invariant.ended within high) ∙ c.loop-at.invariant.ids
