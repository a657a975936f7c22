use Rattle.std.proofs.Common.{sym, ◌∙◌, arith}
use Rattle.heap_page.specs.Page.{pointer_of, is_placed}
use Rattle.heap_page.proofs.Laid.{all_below-false, all_below_all, lines-few}
use Rattle.heap_page.proofs.rule.lines_are_placed.Goals as goal

pub is_placed-requires : goal.is_placed-requires
is_placed-requires c = omega (arith, lines-few c.args.page.now c.requires)

pub returns-then-not-is_placed : goal.returns-then-not-is_placed
returns-then-not-is_placed c =
    all_below-false (λ k. is_placed c.args.page.now (pointer_of c.args.page.now k)) _ c.loop-k.k (omega arith) (sym c.is_placed.ensures ∙ c.if-not-is_placed.true)

pub returns : goal.returns
returns c =
    all_below_all (λ k. is_placed c.args.page.now (pointer_of c.args.page.now k)) _ c.loop-k.k (omega arith) c.loop-k.invariant
