use Rattle.std.proofs.Common.{rules, ◌≡◌, ◌∙◌, ℕ, length, length-set, arith, sym, ap, subst, refl, set, false, List}
use Rattle.std.proofs.lemmas.List.{get_or_default}
use Rattle.known_assigned.specs.declared.running_set.Slot.{Slot}
use Rattle.known_assigned.specs.Ids.{minus}
use Rattle.known_assigned.specs.Slots.{AtPlace, NoPlace, Places, live_ids}
use Rattle.known_assigned.proofs.Slotted.{ended-marked, few-marked, filter-from_zero, is_rising-set, live_ids-ended, minus-no_place, no_slot}
use Rattle.known_assigned.proofs.running_set.RunningSet.remove.Goals as goal

pub passed-self-inside-requires-clause-rising : goal.passed-self-inside-requires-clause-rising
passed-self-inside-requires-clause-rising c =
    let slots = c.self.inside.slots.items in
    let p : AtPlace slots c.in-Ok.at c.args.xid = subst (λ (l : List Slot). AtPlace l c.in-Ok.at c.args.xid) c.as_slice.ensures.value c.in-Ok.ensures.ok in
    let marked : Slot = record { xid = c.index_mut.result.now.xid; live = false } in
    is_rising-set slots c.in-Ok.at no_slot marked c.self.invariant.order.rising p.within
    (ap (λ (s : Slot). s.xid) (sym (c.index_mut.ensures.value ∙ get_or_default slots c.in-Ok.at c.index_mut.result.now no_slot p.within)))

pub passed-self-inside-requires-clause-ended : goal.passed-self-inside-requires-clause-ended
passed-self-inside-requires-clause-ended c =
    ended-marked c.self.inside.slots.items c.in-Ok.at c.self.inside.first (record { xid = c.index_mut.result.now.xid; live = false }) refl c.self.invariant.order.ended

pub returns-in-Ok-clause-xids : goal.returns-in-Ok-clause-xids
returns-in-Ok-clause-xids c =
    let slots = c.self.inside.slots.items in
    let p : AtPlace slots c.in-Ok.at c.args.xid = subst (λ (l : List Slot). AtPlace l c.in-Ok.at c.args.xid) c.as_slice.ensures.value c.in-Ok.ensures.ok in
    let marked : Slot = record { xid = c.index_mut.result.now.xid; live = false } in
    c.passed-self-inside.ensures.ids
    ∙ filter-from_zero (live_ids (set slots c.in-Ok.at marked))
    ∙ live_ids-ended slots c.in-Ok.at c.args.xid marked p refl
    ∙ ap (λ (q : Places). minus c.args.xid q.xids) c.self.view_is

pub returns-in_default-clause-xids : goal.returns-in_default-clause-xids
returns-in_default-clause-xids c =
    let slots = c.self.inside.slots.items in
    let n : NoPlace slots c.in_default.field-0 c.args.xid = subst (λ (l : List Slot). NoPlace l c.in_default.field-0 c.args.xid) c.as_slice.ensures.value c.in_default.ensures.err in
    sym (ap (λ (q : Places). minus c.args.xid q.xids) (sym c.self.view_is)
    ∙ minus-no_place slots c.in_default.field-0 c.args.xid n
    ∙ ap (λ (q : Places). q.xids) c.self.view_is)

pub invariant_of-self : goal.invariant_of-self
invariant_of-self c =
    let slots = c.self.inside.slots.items in
    let p : AtPlace slots c.in-Ok.at c.args.xid = subst (λ (l : List Slot). AtPlace l c.in-Ok.at c.args.xid) c.as_slice.ensures.value c.in-Ok.ensures.ok in
    let marked : Slot = record { xid = c.index_mut.result.now.xid; live = false } in
    let after = c.passed-self-inside.new.slots.items in
    let before : length (set slots c.in-Ok.at marked) ≡ length slots = length-set slots c.in-Ok.at marked in
    let same : length (live_ids after) ≡ length (live_ids (set slots c.in-Ok.at marked)) =
    ap (λ (l : List ℕ). length l) (c.passed-self-inside.ensures.ids ∙ filter-from_zero (live_ids (set slots c.in-Ok.at marked))) in
    let whole : length after ≡ length slots = search rules in
    record {
      order = c.passed-self-inside.ensures.order;
      few = omega (arith, c.self.invariant.few, c.saturating_add-self-inside.ensures, few-marked slots c.in-Ok.at marked p.within, same, whole);
    }
