use Rattle.std.proofs.Common.{◌+◌, ◌-◌, drop, arith, sym, ◌∙◌, append_assoc, take}
use Rattle.std.proofs.Math.ListN.{length-set}
use Rattle.std.proofs.lemmas.List.{take-set-le}
use Rattle.pg_types.specs.Names.{fixed_hex}
use Rattle.pg_types.proofs.Hex.{fixed_hex_step, fixed_hex_all}
use Rattle.pg_types.proofs.text.put_fixed_hex.Goals as goal

pub loop-places-preserved : goal.loop-places-preserved
loop-places-preserved c =
    let l = c.loop-places in
    record {
      long = length-set l.text (c.args.start + (l.places - 1)) c.hex_digit.result ∙ l.invariant.long;
      room = omega arith;
      front = take-set-le c.args.start l.text (c.args.start + (l.places - 1)) c.hex_digit.result (omega arith) ∙ l.invariant.front;
      written = fixed_hex_step c.args.start l.places l.rest c.hex_digit.result l.text _ c.loop-places-test.true (omega arith) c.hex_digit.ensures l.invariant.written;
    }

pub returns : goal.returns
returns c =
    let l = c.loop-places in
    fixed_hex_all c.args.start l.places l.rest l.text _ _ c.loop-places-test.false l.invariant.front l.invariant.written
    ∙ sym (append_assoc (take c.args.start c.args.text.now) (fixed_hex 8 c.args.n) (drop (c.args.start + 8) c.args.text.now))
