use Rattle.std.proofs.Common.{◌++◌, ◌^◌, ◌/◌, ◌%◌, ap, ◌∙◌, true, List, ℕ}
use Rattle.std.specs.Fmt.{digits}
use Rattle.pg_types.specs.Names.{lsn_text}
use Rattle.pg_types.proofs.Hex.{both_written}
use Rattle.pg_types.proofs.names.Lsn.print.Goals as goal

pub returns-clause-ok : goal.returns-clause-ok
unfolding lsn_text
returns-clause-ok c =
    let low = c.put_hex-low in
    let high = c.put_hex-high in
    c.in_ok-extend_from_slice.ensures.items
    ∙ ap (λ (xs : List ℕ). c.args.out.now.items ++ xs) (both_written low.result high.result low.new.text high.new.text (digits 16 true (c.args.self.0 / 2 ^ 32)) (digits 16 true (c.args.self.0 % 2 ^ 32)) low.ensures.low low.ensures.high low.array_long high.array_long low.ensures.written high.ensures.written)
