-- What the partition point of the test "below an id" cuts.
use Rattle.std.proofs.Common.{◌≡◌, true, false, length, ltb, rules}
use Rattle.std.specs.List.{AllWithin}
use Rattle.std.proofs.lemmas.List.Sorted.{IsPartitionedBy-ltb, IsPartitionPoint-from_clause}
use Rattle.multixact.specs.declared.entries.Entry.{Entry}
use Rattle.multixact.proofs.Order.{rises, cut_below, cut_from}
use Rattle.multixact.proofs.entries.Multis.place.Goals as goal

parted : (c : goal.After-partition_point) → AllWithin (λ (e : Entry). ltb e.id c.args.id ≡ true) c.self.inside.entries.items 0 c.partition_point.result × AllWithin (λ (e : Entry). ltb e.id c.args.id ≡ false) c.self.inside.entries.items c.partition_point.result (length c.self.inside.entries.items)
parted c =
    let es = c.self.inside.entries.items in
    IsPartitionPoint-from_clause (λ (e : Entry). ltb e.id c.args.id) es c.partition_point.result c.partition_point.ensures.partitioned (IsPartitionedBy-ltb (λ (e : Entry). e.id) es c.args.id (rises es c.self.invariant)) (λ a r f h. search rules)

pub returns-clause-below : goal.returns-clause-below
returns-clause-below c =
    rw (← c.self.view_is) (cut_below c.args.id c.self.inside.entries.items c.partition_point.result (parted c).0)

pub returns-clause-rest : goal.returns-clause-rest
returns-clause-rest c =
    rw (← c.self.view_is) (cut_from c.args.id c.self.inside.entries.items c.partition_point.result (parted c).1)
