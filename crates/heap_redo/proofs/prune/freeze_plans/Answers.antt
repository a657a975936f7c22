use Rattle.std.proofs.Common.{arith, ◌∙◌, sym}
use Rattle.std.proofs.lemmas.Grind.{common_steps}
use Rattle.heap_page.specs.Page.{items_of}
use Rattle.heap_redo.specs.Refused.{refusal_of}
use Rattle.heap_redo.proofs.Pruned.{plans-next, plans-refused, plans-none}
use Rattle.heap_redo.proofs.prune.freeze_plans.Goals as goal

pub returns-in_err-freeze_lines : goal.returns-in_err-freeze_lines
returns-in_err-freeze_lines c =
    let refused = plans-refused c.loop-plan.plan-iterator c.next.new.self c.in-Some.plan (items_of c.loop-plan.page)
    (refusal_of c.in_err-freeze_lines.field-0.0) c.in-Some.ensures.steps c.in_err-freeze_lines.ensures in
    let whole = refused ∙ c.loop-plan.invariant in
    grind (arith, common_steps, whole)

pub loop-plan-preserved : goal.loop-plan-preserved
loop-plan-preserved c =
    plans-next c.loop-plan.plan-iterator c.next.new.self c.in-Some.plan (items_of c.loop-plan.page) (items_of c.freeze_lines.new.page)
    c.in-Some.ensures.steps c.in_ok-freeze_lines.ensures
    ∙ c.loop-plan.invariant

pub returns : goal.returns
returns c =
    sym (plans-none c.loop-plan.plan-iterator (items_of c.loop-plan.page) c.in-None.ensures.steps.0)
    ∙ c.loop-plan.invariant
