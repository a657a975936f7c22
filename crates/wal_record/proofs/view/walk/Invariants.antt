use Rattle.std.proofs.Common.{◌≡◌, ◌-◌, ◌*◌, ◌≤◌, length}
use Rattle.wal_record.specs.Decoded.{walked_from, walked}
use Rattle.wal_record.proofs.view.walk.Given as goal

-- the parts that are left lead to what all of them lead to
abbrev pub invariant-loop : goal.invariant-loop
invariant-loop l = record {
  bounded : l.seen.blocks ≤ 131070 * l.counter;
  leads : walked_from (length l.text - l.counter) l.seen l.rest ≡ walked l.text;
}
