-- What the partition point of the test "below x" cuts.
use Rattle.std.proofs.Common.{◌≡◌, true, false, length, take, drop, ltb, rules, arith, subst, sym}
use Rattle.std.specs.List.{AllWithin}
use Rattle.std.proofs.lemmas.List.Sorted.{IsPartitionedBy-ltb, IsPartitionPoint-from_clause}
use Rattle.subtrans.specs.declared.Pair.{Pair}
use Rattle.subtrans.specs.Parents.{Parents, before_sub, from_sub}
use Rattle.subtrans.proofs.Order.{rises, cut, behind, before}
use Rattle.subtrans.proofs.Subtrans.place.Goals as goal

parted : (c : goal.After-partition_point) → AllWithin (λ (q : Pair). ltb q.sub c.args.x ≡ true) c.self.inside.pairs.items 0 c.partition_point.result × AllWithin (λ (q : Pair). ltb q.sub c.args.x ≡ false) c.self.inside.pairs.items c.partition_point.result (length c.self.inside.pairs.items)
parted c =
    let qs = c.self.inside.pairs.items in
    IsPartitionPoint-from_clause (λ (q : Pair). ltb q.sub c.args.x) qs c.partition_point.result c.partition_point.ensures.partitioned (IsPartitionedBy-ltb (λ (q : Pair). q.sub) qs c.args.x (rises qs c.self.invariant)) (λ a r f h. search rules)

pub returns-clause-below : goal.returns-clause-below
returns-clause-below c =
    rw (← c.self.view_is) ((cut c.self.inside.pairs.items c.args.x c.partition_point.result (parted c).0 (parted c).1).0)

pub returns-clause-rest : goal.returns-clause-rest
returns-clause-rest c =
    rw (← c.self.view_is) ((cut c.self.inside.pairs.items c.args.x c.partition_point.result (parted c).0 (parted c).1).1)

-- what the fast answers cut
end_is : (c : goal.After-len) → c.len.result ≡ length c.args.self.now.pairs
end_is c = subst (λ (v : Parents). c.len.result ≡ length v.pairs) c.self.view_is (omega (arith, c.len.ensures, c.self.inside.pairs.ok))

pub returns-then-are_below-clause-below : goal.returns-then-are_below-clause-below
returns-then-are_below-clause-below c =
    let qs = c.args.self.now.pairs in
    subst (λ n. take n qs ≡ before_sub qs c.args.x) (sym (end_is c)) (behind qs c.args.x c.if-are_below.ensures).0

pub returns-then-are_below-clause-rest : goal.returns-then-are_below-clause-rest
returns-then-are_below-clause-rest c =
    let qs = c.args.self.now.pairs in
    subst (λ n. drop n qs ≡ from_sub qs c.args.x) (sym (end_is c)) (behind qs c.args.x c.if-are_below.ensures).1

pub returns-then-are_from-clause-below : goal.returns-then-are_from-clause-below
returns-then-are_from-clause-below c = (before c.args.self.now.pairs c.args.x c.if-are_from.ensures).0

pub returns-then-are_from-clause-rest : goal.returns-then-are_from-clause-rest
returns-then-are_from-clause-rest c = (before c.args.self.now.pairs c.args.x c.if-are_from.ensures).1
