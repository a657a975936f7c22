use Rattle.std.proofs.Common.{drop, sym, ap, ◌∙◌, subst, arith}
use Rattle.std.specs.Prelude.{None}
use Rattle.multixact.specs.declared.entries.Entry.{Entry}
use Rattle.multixact.specs.Entries.{Entries, IdsAbove, IdsFrom}
use Rattle.multixact.proofs.Order.{absent_after}
use Rattle.multixact.proofs.entries.Multis.search.Goals as goal
use Rattle.multixact.proofs.entries.Multis.search.Goals.{else-at-len-via-then-at-len+else-index-id, else-at-len-via-else-at-len}

pub returns-else-at-len : goal.returns-else-at-len
returns-else-at-len c =
    let es = c.self.inside.entries.items in
    let at = c.place-at.result in
    let from : IdsFrom c.args.id (drop at es) = subst (λ (v : Entries). IdsFrom c.args.id (drop at v.entries)) (sym c.self.view_is) c.place-at.ensures.rest in
    let after =
    elim c.else-at-len.branch as (λ _. IdsAbove c.args.id (drop at es)) [
      | else-at-len-via-then-at-len+else-index-id w ↦ absent_after es c.args.id at w.index.result.now c.self.invariant from (λ _ is. w.if-index-id.false (ap (λ (e : Entry). e.id) w.index.ensures ∙ is))
      | else-at-len-via-else-at-len w ↦ absent_after es c.args.id at (record { id = 0; updater = None }) c.self.invariant from (λ within _. absurd (omega (arith, within, c.self.inside.entries.ok)))
    ] in
    record {
      within = c.place-at.ensures.bound;
      before = c.place-at.ensures.below;
      after = subst (λ (v : Entries). IdsAbove c.args.id (drop at v.entries)) c.self.view_is after;
    }
