use Rattle.std.proofs.Common.{rules, ℕ, List, ◌≡◌, ◌≤◌, ◌-◌, ◌∙◌, ap, arith, length, vec_len}
use Rattle.std.specs.Vec.{vec_capacity}
use Rattle.known_assigned.specs.Slots.{Places, live_ids}
use Rattle.known_assigned.proofs.Slotted.{filter-from_zero, length-live_ids}
use Rattle.known_assigned.proofs.running_set.RunningSet.replace.Goals as goal

pub fill-requires-clause-room : goal.fill-requires-clause-room
fill-requires-clause-room c =
    let whole : vec_len c.self.inside.slots ≤ vec_capacity c.self.inside.slots = search rules in
    let long : length c.self.inside.slots.items ≡ vec_len c.self.inside.slots = search rules in
    let few = length-live_ids c.self.inside.slots.items in
    let count : length (live_ids c.self.inside.slots.items) ≡ length c.args.self.now.xids = ap (λ (p : Places). length p.xids) c.self.view_is in
    let spare : vec_capacity c.self.inside.slots - vec_len c.self.inside.slots ≡ c.args.self.now.spare = ap (λ (p : Places). p.spare) c.self.view_is in
    omega (arith, c.requires, c.clear.ensures.capacity)

pub returns-clause-xids : goal.returns-clause-xids
returns-clause-xids c =
    c.passed-self-inside.ensures.ids ∙ filter-from_zero (live_ids c.fill.new.slots.items) ∙ c.fill.ensures.ids

pub invariant_of-self : goal.invariant_of-self
invariant_of-self c =
    let placed = c.fill.new.slots.items in
    let after = c.passed-self-inside.new.slots.items in
    let same : length (live_ids after) ≡ length (live_ids placed) =
    ap (λ (l : List ℕ). length l) (c.passed-self-inside.ensures.ids ∙ filter-from_zero (live_ids placed)) in
    let whole : length after ≡ length placed = search rules in
    record {
      order = c.passed-self-inside.ensures.order;
      few = omega (arith, c.fill.ensures.live, same, whole);
    }
