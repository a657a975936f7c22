use Rattle.std.proofs.Common.{◌≡◌}
use Rattle.heap_page.specs.Page.{items_of}
use Rattle.heap_redo.specs.After.{freeze}
use Rattle.heap_redo.proofs.prune.freeze_plans.Given as goal

abbrev pub invariant-loop-plan : goal.invariant-loop-plan
invariant-loop-plan l =
    freeze l.plan-iterator (items_of l.page) ≡ freeze l.plans (items_of l.initial.page)
