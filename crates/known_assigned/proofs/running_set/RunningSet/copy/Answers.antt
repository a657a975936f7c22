use Rattle.std.proofs.Common.{subst, ◌≡◌, ◌-◌, ◌∙◌, [], ◌++◌, ap, sym, length, drop, take}
use Rattle.std.specs.List.Sorted.{IsStrictlyIncreasing}
use Rattle.std.proofs.lemmas.List.{drop_all, take_rest, append-nil}
use Rattle.known_assigned.specs.Slots.{Places, live_ids}
use Rattle.known_assigned.specs.Ids.{numbers}
use Rattle.known_assigned.proofs.Slotted.{increasing, live_from_first}
use Rattle.known_assigned.proofs.running_set.RunningSet.copy.Goals as goal

pub returns-clause-ok : goal.returns-clause-ok
returns-clause-ok c =
    let slots = c.as_slice.result.now in
    let first = c.self.inside.first in
    let part = take (length slots - first) (drop first slots) in
    let done : drop c.loop-slot.slot-index part ≡ [] = drop_all c.loop-slot.slot-index part c.loop-slot-test.false in
    sym (append-nil (numbers c.loop-slot.xids))
    ∙ sym (ap (λ l. numbers c.loop-slot.xids ++ live_ids l) done)
    ∙ c.loop-slot.invariant
    ∙ ap live_ids (take_rest slots first)
    ∙ ap (λ l. live_ids (drop first l)) c.as_slice.ensures.value
    ∙ live_from_first c.self.inside.slots.items first c.self.invariant.order.ended
    ∙ ap (λ (p : Places). p.xids) c.self.view_is

pub returns-clause-rising : goal.returns-clause-rising
returns-clause-rising c =
    subst (λ (p : Places). IsStrictlyIncreasing p.xids) c.self.view_is (increasing c.self.inside.slots.items c.self.invariant.order.rising)

pub returns-in_err-push-clause-rising : goal.returns-in_err-push-clause-rising
returns-in_err-push-clause-rising c =
    subst (λ (p : Places). IsStrictlyIncreasing p.xids) c.self.view_is (increasing c.self.inside.slots.items c.self.invariant.order.rising)
