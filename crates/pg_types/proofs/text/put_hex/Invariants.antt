use Rattle.std.proofs.Common.{◌≡◌, ◌+◌, ◌^◌, ◌<◌, ◌≤◌, ◌⊎◌, ◌++◌, true, length, drop}
use Rattle.std.specs.Fmt.{digits, digits_onto}
use Rattle.pg_types.proofs.text.put_hex.Given as goal

abbrev pub invariant-loop-places : goal.invariant-loop-places
invariant-loop-places l = record {
  long : length l.text ≡ 17;
  room : l.places ≤ 8;
  small : l.rest < 16 ^ l.places;
  some : 0 < l.places ⊎ 0 < l.rest;
  written : digits_onto (56 + l.places) 16 true l.rest (drop (l.start + l.places) l.text) ≡ digits 16 true l.n ++ drop (l.start + 8) l.fn.text;
}

abbrev pub decreases-loop-places : goal.decreases-loop-places
decreases-loop-places l = l.places
