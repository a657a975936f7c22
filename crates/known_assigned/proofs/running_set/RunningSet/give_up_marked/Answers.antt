use Rattle.std.proofs.Common.{rules, ◌≡◌, ◌∙◌, ℕ, ap, sym, subst, arith, length, vec_len, List}
use Rattle.known_assigned.specs.declared.running_set.Slot.{Slot}
use Rattle.known_assigned.specs.Slots.{AreCounted, Places, live_ids}
use Rattle.known_assigned.proofs.Slotted.{InOrder-kept, length-kept, live_ids-kept}
use Rattle.known_assigned.proofs.running_set.RunningSet.give_up_marked.Goals as goal

pub invariant_of-self : goal.invariant_of-self
invariant_of-self c =
    let slots = c.self.inside.slots.items in
    subst (λ (l : List Slot). AreCounted l 0 0) (sym c.compact.ensures.items)
    (record {
      order = InOrder-kept slots c.self.inside.first c.self.invariant.order;
      few = omega (arith, length-kept slots, ap (λ (l : List ℕ). length l) (live_ids-kept slots));
    })

pub returns-clause-xids : goal.returns-clause-xids
returns-clause-xids c =
    ap live_ids c.compact.ensures.items
    ∙ live_ids-kept c.self.inside.slots.items
    ∙ ap (λ (p : Places). p.xids) c.self.view_is

pub returns-clause-taken : goal.returns-clause-taken
returns-clause-taken c =
    let slots = c.self.inside.slots.items in
    let long : length c.compact.new.slots.items ≡ vec_len c.compact.new.slots = search rules in
    sym long
    ∙ ap (λ (l : List Slot). length l) c.compact.ensures.items
    ∙ length-kept slots
    ∙ sym (ap (λ (l : List ℕ). length l) (ap live_ids c.compact.ensures.items ∙ live_ids-kept slots))
