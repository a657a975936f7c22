use Rattle.std.proofs.Common.{◌≡◌, ◌∙◌, sym, subst, take, arith}
use Rattle.heap_page.specs.Item.{trimmed}
use Rattle.heap_page.specs.Page.{lines_of, items_of}
use Rattle.heap_page.proofs.Header.{lines-bound, all-lines, one-line-less, last-line, no-line}
use Rattle.heap_page.proofs.page.lines.Goals as goal
use Rattle.heap_page.proofs.page.lines.Goals.{then-loop-count-test+else-is_unused_at, else-loop-count-test}

pub loop-count-init : goal.loop-count-init
loop-count-init c =
    (omega arith, subst (λ n. items_of c.args.page.now ≡ trimmed (take n (lines_of c.args.page.now))) (sym c.line_count-count.ensures) (all-lines c.args.page.now))

pub loop-count-preserved : goal.loop-count-preserved
loop-count-preserved c = (
  omega arith,
  one-line-less c.args.page.now c.loop-count.count c.loop-count-test.true c.loop-count.invariant.1 (sym c.is_unused_at.ensures ∙ c.if-is_unused_at.true),
)

pub overflow_cast-result : goal.overflow_cast-result
overflow_cast-result c = omega (arith, lines-bound c.args.page.now c.requires)

pub returns : goal.returns
returns c =
    elim c.loop-count-test.branch [
      | then-loop-count-test+else-is_unused_at w ↦
          last-line c.args.page.now c.loop-count.count w.loop-count-test.true c.loop-count.invariant.1 (sym w.is_unused_at.ensures ∙ w.if-is_unused_at.false)
      | else-loop-count-test w ↦
          no-line c.args.page.now c.loop-count.count (omega arith) c.loop-count.invariant.1
    ]
