use Rattle.std.proofs.Common.{arith, ◌∙◌, sym}
use Rattle.std.proofs.lemmas.Grind.{common_steps}
use Rattle.heap_page.specs.Page.{items_of}
use Rattle.heap_redo.specs.Refused.{refusal_of}
use Rattle.heap_redo.proofs.Pruned.{frozen-next, frozen-refused, frozen-none}
use Rattle.heap_redo.proofs.prune.freeze_lines.Goals as goal

pub returns-in_err-freeze_tuple : goal.returns-in_err-freeze_tuple
returns-in_err-freeze_tuple c =
    let refused = frozen-refused c.args.plan.now c.loop-line.line-iterator c.next.new.self c.in-Some.line (items_of c.loop-line.page)
    (refusal_of c.in_err-freeze_tuple.field-0.0) c.in-Some.ensures.steps c.in_err-freeze_tuple.ensures.answer in
    let whole = refused ∙ c.loop-line.invariant in
    grind (arith, common_steps, whole)

pub loop-line-preserved : goal.loop-line-preserved
loop-line-preserved c =
    frozen-next c.args.plan.now c.loop-line.line-iterator c.next.new.self c.in-Some.line (items_of c.loop-line.page) (items_of c.freeze_tuple.new.page)
    c.in-Some.ensures.steps c.in_ok-freeze_tuple.ensures.answer
    ∙ c.loop-line.invariant

pub returns : goal.returns
returns c =
    sym (frozen-none c.args.plan.now c.loop-line.line-iterator (items_of c.loop-line.page) c.in-None.ensures.steps.0)
    ∙ c.loop-line.invariant
