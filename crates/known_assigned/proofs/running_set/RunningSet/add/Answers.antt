use Rattle.std.proofs.Common.{◌≡◌, ◌<◌, ◌-◌, ◌+◌, ℕ, List, ◌∙◌, sym, ap, subst, refl, arith, length, length-set, set, true, false, vec_len}
use Rattle.std.specs.Vec.{vec_capacity}
use Rattle.std.proofs.lemmas.List.{get_or_default}
use Rattle.std.proofs.lemmas.List.Edits.{length-insert}
use Rattle.std.proofs.lemmas.Bool.{both_ways, cond-true}
use Rattle.std.specs.Result.{is_ok}
use Rattle.std.specs.List.{insert}
use Rattle.known_assigned.specs.declared.running_set.Slot.{Slot}
use Rattle.known_assigned.specs.Ids.{is_among, with_id}
use Rattle.known_assigned.specs.Slots.{AreCounted, AtPlace, InOrder, NoPlace, Places, live_ids}
use Rattle.known_assigned.proofs.Slotted.{InOrder-inserted, InOrder-revived, few-revived, length-live_ids_inserted, is_among-no_place, live_ids-inserted, live_ids-revived, no_slot}
use Rattle.known_assigned.proofs.running_set.RunningSet.add.Goals as goal

-- the place that was found, and what is written there
found : (c : goal.After-self-in-Ok-1) → AtPlace c.self.inside.slots.items c.in-Ok.at c.args.xid
found c = subst (λ (l : List Slot). AtPlace l c.in-Ok.at c.args.xid) c.as_slice.ensures.value c.in-Ok.ensures.ok

written : (c : goal.After-self-in-Ok-1) → c.index_mut.result.now.xid ≡ c.args.xid
written c =
    ap (λ (s : Slot). s.xid) (c.index_mut.ensures.value ∙ get_or_default c.self.inside.slots.items c.in-Ok.at c.index_mut.result.now no_slot (found c).within)
    ∙ (found c).same

pub invariant_of-self : goal.invariant_of-self
invariant_of-self c =
    let slots = c.self.inside.slots.items in
    let v : Slot = record { xid = c.index_mut.result.now.xid; live = true } in
    let long : length (set slots c.in-Ok.at v) ≡ length slots = length-set slots c.in-Ok.at v in
    record {
      order = subst (λ (k : ℕ). InOrder (set slots c.in-Ok.at v) k) (sym c.min-self-inside.ensures)
          (InOrder-revived slots c.in-Ok.at c.args.xid c.self.inside.first v (found c) (written c) refl c.self.invariant.order);
      few = omega (arith, c.self.invariant.few, few-revived slots c.in-Ok.at v (found c).within refl, long);
    }

pub returns-in-Ok-clause-xids : goal.returns-in-Ok-clause-xids
returns-in-Ok-clause-xids c =
    live_ids-revived c.self.inside.slots.items c.in-Ok.at c.args.xid (record { xid = c.index_mut.result.now.xid; live = true }) (found c) (written c) refl
    ∙ ap (λ (p : Places). with_id c.args.xid p.xids) c.self.view_is

-- where there is none, room for one more is required
absent : (c : goal.After-self-in-Err-1) → NoPlace c.self.inside.slots.items c.in-Err.at c.args.xid
absent c = subst (λ (l : List Slot). NoPlace l c.in-Err.at c.args.xid) c.as_slice.ensures.value c.in-Err.ensures.err

not_in : (c : goal.After-self-in-Err-1) → is_among c.args.xid c.args.self.now.xids ≡ false
not_in c =
    ap (λ (p : Places). is_among c.args.xid p.xids) (sym c.self.view_is)
    ∙ is_among-no_place c.self.inside.slots.items c.in-Err.at c.args.xid (absent c)

pub unreachable-requires : goal.unreachable-requires
unreachable-requires c =
    let none = subst (λ (l : List Slot). NoPlace l c.in-Err.at c.args.xid) c.as_slice.ensures.value c.in-Err.ensures.err in
    let out : is_among c.args.xid c.args.self.now.xids ≡ false =
    ap (λ (p : Places). is_among c.args.xid p.xids) (sym c.self.view_is) ∙ is_among-no_place c.self.inside.slots.items c.in-Err.at c.args.xid none in
    let room : 0 < c.args.self.now.spare = c.requires out in
    let spare : vec_capacity c.self.inside.slots - vec_len c.self.inside.slots ≡ c.args.self.now.spare = ap (λ (p : Places). p.spare) c.self.view_is in
    let success = c.insert.ensures.succeeds (omega arith) in
    let failure : is_ok c.insert.result ≡ false = c.is_err.ensures.negation ∙ rw c.if-is_err.true refl in
    both_ways (is_ok c.insert.result) failure success

succeeded : (c : goal.After-self-in-Err-1) → is_ok c.insert.result ≡ true
succeeded c = c.is_err.ensures.negation ∙ rw c.if-is_err.false refl

inserted : (c : goal.After-self-in-Err-1) → c.insert.new.self.items ≡ insert c.self.inside.slots.items c.in-Err.at (record { xid = c.args.xid; live = true })
inserted c = c.insert.ensures.items ∙ cond-true (is_ok c.insert.result) _ _ (succeeded c)

pub invariant_of-self-in-Err : goal.invariant_of-self-in-Err
invariant_of-self-in-Err c =
    let slots = c.self.inside.slots.items in
    let v : Slot = record { xid = c.args.xid; live = true } in
    let long : length (insert slots c.in-Err.at v) ≡ length slots + 1 = length-insert slots c.in-Err.at v (absent c).within in
    subst (λ (l : List Slot). AreCounted l c.min-self-inside-in-Err.result c.self.inside.marked) (sym (inserted c))
    (record {
      order = subst (λ (k : ℕ). InOrder (insert slots c.in-Err.at v) k) (sym c.min-self-inside-in-Err.ensures)
          (InOrder-inserted slots c.in-Err.at c.args.xid c.self.inside.first (absent c) c.self.invariant.order);
      few = omega (arith, c.self.invariant.few, length-live_ids_inserted slots c.in-Err.at c.args.xid, long);
    })

pub returns-else-is_err-clause-xids : goal.returns-else-is_err-clause-xids
returns-else-is_err-clause-xids c =
    ap live_ids (inserted c)
    ∙ live_ids-inserted c.self.inside.slots.items c.in-Err.at c.args.xid (absent c)
    ∙ ap (λ (p : Places). with_id c.args.xid p.xids) c.self.view_is

pub returns-else-is_err-clause-spare : goal.returns-else-is_err-clause-spare
returns-else-is_err-clause-spare c =
    let spare : vec_capacity c.self.inside.slots - vec_len c.self.inside.slots ≡ c.args.self.now.spare = ap (λ (p : Places). p.spare) c.self.view_is in
    let longer : vec_len c.insert.new.self ≡ vec_len c.self.inside.slots + 1 = c.insert.ensures.len ∙ cond-true (is_ok c.insert.result) _ _ (succeeded c) in
    let wider = c.insert.ensures.capacity in
    rw (not_in c) (omega arith)
