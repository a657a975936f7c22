use Rattle.std.proofs.Common.{rules, List, ◌≡◌, ◌≤◌, ◌∙◌, [], ◌++◌, ap, sym, arith, drop, length}
use Rattle.std.specs.List.{dedup}
use Rattle.std.specs.List.Sorted.{IsNonDecreasingBy}
use Rattle.std.proofs.lemmas.Fn.{dedup_same}
use Rattle.std.proofs.lemmas.List.{append-nil, drop_all}
use Rattle.std.proofs.lemmas.List.Sorted.{IsNonDecreasingBy-from_sort_by_key}
use Rattle.known_assigned.specs.declared.running_set.Slot.{Slot}
use Rattle.known_assigned.specs.Ids.{with_ids}
use Rattle.known_assigned.specs.Slots.{is_rising, live_ids}
use Rattle.known_assigned.proofs.Deduped.{live-deduped, live_ids-deduped, rising-deduped, same_id}
use Rattle.known_assigned.proofs.Sets.{live-all, live_ids-placed, placed}
use Rattle.known_assigned.proofs.running_set.fill.Goals as goal

pub returns : goal.returns
returns c =
    let xids = c.args.xids.now in
    let before = c.loop-xid.slots.items in
    let sorted = c.sort_unstable_by_key.new.self.items in
    let moved = c.sort_unstable_by_key.ensures.permutation in
    let done : drop c.loop-xid.xid-index xids ≡ [] = drop_all c.loop-xid.xid-index xids (omega arith) in
    let all : before ≡ placed xids = sym (append-nil before) ∙ sym (ap (λ l. before ++ placed l) done) ∙ c.loop-xid.invariant.items in
    let live : length sorted ≤ length (live_ids sorted) = live-all before sorted xids moved all in
    let up : IsNonDecreasingBy (λ (s : Slot). s.xid) sorted =
    IsNonDecreasingBy-from_sort_by_key (λ (s : Slot). s.xid) sorted c.sort_unstable_by_key.ensures.sorted (λ a r q k. search rules) in
    let kept : c.dedup_by_key.new.self.items ≡ dedup same_id sorted =
    dedup_same _ same_id _ (λ x y b f' x' y' k. search rules) sorted c.dedup_by_key.new.self.items c.dedup_by_key.ensures.filtered in
    record {
      rising = ap is_rising kept ∙ rising-deduped sorted up;
      ids = ap live_ids kept ∙ live_ids-deduped before sorted moved live up ∙ ap (λ l. with_ids l []) (ap live_ids all ∙ live_ids-placed xids);
      live = rw kept (live-deduped sorted live);
      room = omega (arith);
    }
