use Rattle.std.proofs.Common.{rules, ◌≡◌, ◌-◌, ◌∙◌, sym, arith, true, false, get_or, length, nat_lt}
use Rattle.std.specs.List.Sorted.{IsPartitionPoint}
use Rattle.std.proofs.lemmas.Bool.{ltb-true, ltb-false, le-leb}
use Rattle.std.proofs.lemmas.List.Sorted.{IsPartitionedBy-ltb, IsPartitionPoint-from_clause}
use Rattle.known_assigned.specs.declared.running_set.Slot.{Slot}
use Rattle.known_assigned.proofs.Slotted.{below_all, below, from, list_all-take, list_all-drop, never_falls}
use Rattle.known_assigned.proofs.running_set.place.Goals as goal
use Rattle.known_assigned.proofs.running_set.place.Goals.{then-len-eq0, else-len-eq0}

-- no place, or the last is below the id
pub returns-then-slots-len-clause-below : goal.returns-then-slots-len-clause-below
returns-then-slots-len-clause-below c =
    let slots = c.args.slots.now in
    let d : Slot = record { xid = 0; live = false } in
    elim c.if-len-eq0.branch [
      | then-len-eq0 w ↦ list_all-take (below c.args.xid) slots (length slots) (λ k e low within. absurd (omega (arith, w.if-len-eq0.true)))
      | else-len-eq0 w ↦ below_all c.args.xid slots (length slots - 1) d c.requires (omega (arith, w.if-len-eq0.false)) (omega arith)
          (ltb-true (get_or slots (length slots - 1) d).xid c.args.xid (sym w.value-is ∙ c.if-slots-len.true))
    ]

-- the ids do not fall, so halving finds the place
found : (c : goal.After-partition_point) → IsPartitionPoint (λ (s : Slot). nat_lt s.xid c.args.xid ≡ true) (λ (s : Slot). nat_lt s.xid c.args.xid ≡ false) c.args.slots.now c.partition_point.result
found c =
    IsPartitionPoint-from_clause (below c.args.xid) c.args.slots.now c.partition_point.result c.partition_point.ensures.partitioned
    (IsPartitionedBy-ltb (λ (s : Slot). s.xid) c.args.slots.now c.args.xid (never_falls c.args.slots.now c.requires))
    (λ a r q k. search rules)

pub returns-else-slots-len-clause-below : goal.returns-else-slots-len-clause-below
returns-else-slots-len-clause-below c =
    list_all-take (below c.args.xid) c.args.slots.now c.partition_point.result (λ k d low within. (found c).0 k d (omega arith) low)

pub returns-else-slots-len-clause-rest : goal.returns-else-slots-len-clause-rest
returns-else-slots-len-clause-rest c =
    list_all-drop (from c.args.xid) c.args.slots.now c.partition_point.result
    (λ k d high within. le-leb c.args.xid (get_or c.args.slots.now k d).xid (ltb-false (get_or c.args.slots.now k d).xid c.args.xid ((found c).1 k d high within)))
