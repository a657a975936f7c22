use Rattle.std.proofs.Common.{◌≡◌, ◌+◌, ◌≤◌, ◌++◌, length, take, drop}
use Rattle.pg_types.specs.Names.{fixed_hex}
use Rattle.pg_types.proofs.text.put_fixed_hex.Given as goal

abbrev pub invariant-loop-places : goal.invariant-loop-places
invariant-loop-places l = record {
  long : length l.text ≡ 24;
  room : l.places ≤ 8;
  front : take l.start l.text ≡ take l.start l.fn.text;
  written : fixed_hex l.places l.rest ++ drop (l.start + l.places) l.text ≡ fixed_hex 8 l.n ++ drop (l.start + 8) l.fn.text;
}

abbrev pub decreases-loop-places : goal.decreases-loop-places
decreases-loop-places l = l.places
