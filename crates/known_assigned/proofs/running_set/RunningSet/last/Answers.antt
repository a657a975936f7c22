use Rattle.std.proofs.Common.{rules, ◌≡◌, ◌<◌, ◌≤◌, ◌-◌, ◌+◌, ◌∙◌, true, ap, sym, subst, arith, length, nat_le, ℕ, get_or}
use Rattle.std.specs.List.{list_all}
use Rattle.std.proofs.lemmas.List.{get_or_default}
use Rattle.known_assigned.specs.declared.running_set.Slot.{Slot}
use Rattle.known_assigned.specs.Slots.{Places, live_ids}
use Rattle.known_assigned.proofs.Slotted.{live_upto, no_slot}
use Rattle.known_assigned.proofs.running_set.RunningSet.last.Goals as goal

pub returns-else-len-eq0 : goal.returns-else-len-eq0
returns-else-len-eq0 c =
    let slots = c.self.inside.slots.items in
    let last = c.len-len.result - 1 in
    let long : c.len-len.result ≡ length slots = search rules in
    let within : last < length slots = omega (arith, c.if-len-eq0.false) in
    let end : length slots ≤ last + 1 = omega arith in
    let read : (get_or slots last no_slot).xid ≡ c.index.result.now.xid = ap (λ (s : Slot). s.xid) (sym (c.index.ensures ∙ get_or_default slots last c.index.result.now no_slot within)) in
    let all : list_all (λ x. nat_le x c.index.result.now.xid) (live_ids slots) ≡ true =
    subst (λ (m : ℕ). list_all (λ x. nat_le x m) (live_ids slots) ≡ true) read (live_upto slots last c.self.invariant.order.rising within end) in
    ap (λ (p : Places). list_all (λ x. nat_le x c.index.result.now.xid) p.xids) (sym c.self.view_is) ∙ all
