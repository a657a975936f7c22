use Rattle.std.proofs.Common.{◌+◌, sym, subst, ◌∙◌, arith}
use Rattle.heap_page.specs.Page.{line_count}
use Rattle.heap_page.proofs.Laid.{lines-few}
use Rattle.heap_page.proofs.Taken.{Descends, descends-none, descends-other, descends-line, descends-apart}
use Rattle.heap_page.proofs.rule.lines_descend.Goals as goal
use Rattle.heap_page.proofs.rule.lines_descend.Goals.{then-pointer-eq-NORMAL+else-lowest-end_of_room, else-pointer-eq-NORMAL}

pub loop-k-init : goal.loop-k-init
loop-k-init c = descends-none c.args.page.now 8192

pub pointer_at-pointer-requires : goal.pointer_at-pointer-requires
pointer_at-pointer-requires c = omega (arith, lines-few c.args.page.now c.requires)

pub loop-k-preserved : goal.loop-k-preserved
loop-k-preserved c =
    elim c.if-pointer-eq-NORMAL.branch [
      | then-pointer-eq-NORMAL+else-lowest-end_of_room w ↦
          subst (Descends c.args.page.now (c.loop-k.k + 1)) (sym w.lowest-is)
          (descends-line c.args.page.now c.loop-k.k c.loop-k.lowest c.pointer_at-pointer.result.offset c.pointer_at-pointer.result.length w.end_of_room.result c.loop-k.invariant
          c.pointer_at-pointer.ensures.offset c.pointer_at-pointer.ensures.length w.end_of_room.ensures w.if-lowest-end_of_room.false)
      | else-pointer-eq-NORMAL w ↦
          subst (Descends c.args.page.now (c.loop-k.k + 1)) (sym w.lowest-is)
          (descends-other c.args.page.now c.loop-k.k c.loop-k.lowest c.loop-k.invariant (λ e. w.if-pointer-eq-NORMAL.false (c.pointer_at-pointer.ensures.state ∙ e)))
    ]

pub returns : goal.returns
returns c = λ _. descends-apart c.args.page.now (line_count c.args.page.now) c.loop-k.k c.loop-k.lowest c.loop-k.invariant (omega arith)
