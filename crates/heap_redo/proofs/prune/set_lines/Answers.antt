use Rattle.std.proofs.Common.{arith, ◌∙◌, sym}
use Rattle.std.proofs.lemmas.Grind.{common_steps}
use Rattle.heap_page.specs.Page.{items_of}
use Rattle.heap_page.specs.Shown.{item_to}
use Rattle.heap_redo.specs.Refused.{refusal_of}
use Rattle.heap_redo.proofs.Pruned.{lines-next, lines-refused, lines-none}
use Rattle.heap_redo.proofs.prune.set_lines.Goals as goal

pub returns-in_err-set_line : goal.returns-in_err-set_line
returns-in_err-set_line c =
    let refused = lines-refused (item_to c.args.to) c.loop-line.line-iterator c.next.new.self c.in-Some.line (items_of c.loop-line.page)
    (refusal_of c.in_err-set_line.field-0.0) c.in-Some.ensures.steps c.in_err-set_line.ensures.answer in
    let whole = refused ∙ c.loop-line.invariant in
    grind (arith, common_steps, whole)

pub loop-line-preserved : goal.loop-line-preserved
loop-line-preserved c =
    lines-next (item_to c.args.to) c.loop-line.line-iterator c.next.new.self c.in-Some.line (items_of c.loop-line.page) (items_of c.set_line.new.page)
    c.in-Some.ensures.steps c.in_ok-set_line.ensures.answer
    ∙ c.loop-line.invariant

pub returns : goal.returns
returns c =
    sym (lines-none (item_to c.args.to) c.loop-line.line-iterator (items_of c.loop-line.page) c.in-None.ensures.steps.0)
    ∙ c.loop-line.invariant
