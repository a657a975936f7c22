use Rattle.std.proofs.Common.{subst, rules, ◌<◌, ◌∙◌, Some, ap, sym, length}
use Rattle.std.specs.List.Sorted.{IsStrictlyIncreasing}
use Rattle.std.proofs.lemmas.List.{get_or_default}
use Rattle.std.specs.List.{slice_get}
use Rattle.known_assigned.specs.declared.running_set.Slot.{Slot}
use Rattle.known_assigned.specs.Slots.{Places}
use Rattle.known_assigned.proofs.Slotted.{increasing, least-first, no_slot}
use Rattle.known_assigned.proofs.running_set.RunningSet.least.Goals as goal

pub returns-then-self-len-clause-least : goal.returns-then-self-len-clause-least
returns-then-self-len-clause-least c =
    let slots = c.self.inside.slots.items in
    let first = c.self.inside.first in
    let within : first < length slots = search rules in
    ap (λ (s : Slot). Some s.xid) (c.index.ensures ∙ get_or_default slots first c.index.result.now no_slot within)
    ∙ sym (least-first slots first (c.self.invariant.order) within)
    ∙ ap (λ (p : Places). slice_get p.xids 0) c.self.view_is

pub returns-then-self-len-clause-rising : goal.returns-then-self-len-clause-rising
returns-then-self-len-clause-rising c =
    subst (λ (p : Places). IsStrictlyIncreasing p.xids) c.self.view_is (increasing c.self.inside.slots.items c.self.invariant.order.rising)
