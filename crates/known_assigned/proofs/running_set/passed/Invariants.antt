use Rattle.std.proofs.Common.{◌≡◌, ◌≤◌, ◌+◌, ◌-◌, true, [], filter, length, nat_le, take, vec_len}
use Rattle.std.specs.Vec.{vec_capacity}
use Rattle.known_assigned.specs.Slots.{is_rising, live_ids}
use Rattle.known_assigned.proofs.running_set.passed.Given as goal

abbrev pub invariant-loop-at : goal.invariant-loop-at
invariant-loop-at l = record {
  rising : is_rising l.slots.items ≡ true;
  within : l.at ≤ length l.slots.items;
  ended : live_ids (take l.at l.slots.items) ≡ [];
  ids : filter (nat_le l.oldest) (live_ids l.slots.items) ≡ filter (nat_le l.oldest) (live_ids l.initial.slots.items);
  onward : l.first ≤ l.at;
  marked : length (live_ids l.initial.slots.items) ≤ length (live_ids l.slots.items) + (l.at - l.first);
  len : vec_len l.slots ≡ vec_len l.initial.slots;
  capacity : vec_capacity l.slots ≡ vec_capacity l.initial.slots;
}

abbrev pub decreases-loop-at : goal.decreases-loop-at
decreases-loop-at l = length l.slots.items - l.at
