use Rattle.std.proofs.Common.{◌+◌, ◌-◌, inl, inr, drop, arith, ◌∙◌}
use Rattle.std.proofs.Math.ListN.{length-set}
use Rattle.pg_types.proofs.Hex.{hex_step, hex_last, digits_before, room_falls, room_left}
use Rattle.pg_types.proofs.text.put_hex.Goals as goal

pub loop-places-init : goal.loop-places-init
loop-places-init c = record {
  long = c.told-text;
  room = omega arith;
  small = omega arith;
  some = inl (omega arith);
  written = digits_before c.args.n (drop (c.args.start + 8) c.args.text.now);
}

pub loop-places-preserved : goal.loop-places-preserved
loop-places-preserved c =
    let l = c.loop-places in
    record {
      long = length-set l.text (c.args.start + (l.places - 1)) c.hex_digit.result ∙ l.invariant.long;
      room = omega arith;
      small = room_falls l.places l.rest c.loop-places-test.true l.invariant.small;
      some = inr (omega arith);
      written = hex_step c.args.start l.places l.rest c.hex_digit.result l.text _ c.loop-places-test.true (omega arith) c.hex_digit.ensures c.if-rest-eq0.false l.invariant.written;
    }

pub returns-then-rest-eq0-clause-written : goal.returns-then-rest-eq0-clause-written
returns-then-rest-eq0-clause-written c =
    let l = c.loop-places in
    hex_last c.args.start l.places l.rest c.hex_digit.result l.text _ c.loop-places-test.true (omega arith) c.hex_digit.ensures c.if-rest-eq0.true l.invariant.written

pub returns : goal.returns
returns c = absurd (room_left c.loop-places.places c.loop-places.rest c.loop-places-test.false c.loop-places.invariant.small c.loop-places.invariant.some)
