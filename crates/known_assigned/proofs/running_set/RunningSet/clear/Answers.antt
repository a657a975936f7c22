use Rattle.std.proofs.Common.{rules, ◌≡◌, ◌≤◌, ◌-◌, ap, arith, length, vec_len}
use Rattle.std.specs.Vec.{vec_capacity}
use Rattle.known_assigned.specs.Slots.{Places, live_ids}
use Rattle.known_assigned.proofs.Slotted.{length-live_ids}
use Rattle.known_assigned.proofs.running_set.RunningSet.clear.Goals as goal

pub returns-clause-spare : goal.returns-clause-spare
returns-clause-spare c =
    let whole : vec_len c.self.inside.slots ≤ vec_capacity c.self.inside.slots = search rules in
    let long : length c.self.inside.slots.items ≡ vec_len c.self.inside.slots = search rules in
    let few = length-live_ids c.self.inside.slots.items in
    let count : length (live_ids c.self.inside.slots.items) ≡ length c.args.self.now.xids = ap (λ (p : Places). length p.xids) c.self.view_is in
    let spare : vec_capacity c.self.inside.slots - vec_len c.self.inside.slots ≡ c.args.self.now.spare = ap (λ (p : Places). p.spare) c.self.view_is in
    omega (arith, c.clear.ensures.len, c.clear.ensures.capacity)
