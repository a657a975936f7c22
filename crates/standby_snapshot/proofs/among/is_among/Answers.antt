use Rattle.std.proofs.Common.{rules, arith, nat_lt}
use Rattle.std.proofs.lemmas.List.Sorted.{IsPartitionedBy-ltb, IsPartitionPoint-from_clause}
use Rattle.pg_types.specs.declared.names.Xid.{Xid}
use Rattle.standby_snapshot.proofs.Rising.{value, found_at, found_nowhere, never_falls}
use Rattle.standby_snapshot.proofs.among.is_among.Goals as goal

-- the ids do not fall, so halving finds the place
pub returns : goal.returns
returns c =
    found_at c.args.xids.now c.args.xid.0 c.partition_point-at.result _ (never_falls c.args.xids.now c.requires)
    (IsPartitionPoint-from_clause (λ (y : Xid). nat_lt y.0 c.args.xid.0) c.args.xids.now c.partition_point-at.result c.partition_point-at.ensures.partitioned
    (IsPartitionedBy-ltb value c.args.xids.now c.args.xid.0 (never_falls c.args.xids.now c.requires))
    (λ a r q k. search rules))
    (omega arith)

pub returns-then-at-xids : goal.returns-then-at-xids
returns-then-at-xids c =
    found_nowhere c.args.xids.now c.args.xid.0 c.partition_point-at.result
    (IsPartitionPoint-from_clause (λ (y : Xid). nat_lt y.0 c.args.xid.0) c.args.xids.now c.partition_point-at.result c.partition_point-at.ensures.partitioned
    (IsPartitionedBy-ltb value c.args.xids.now c.args.xid.0 (never_falls c.args.xids.now c.requires))
    (λ a r q k. search rules))
    (omega arith)
