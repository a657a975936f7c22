use Rattle.std.proofs.Common.{◌-◌, ltb, arith, subst}
use Rattle.std.proofs.lemmas.Bool.{OnTrue_from, ltb-true}
use Rattle.multixact.specs.Entries.{Entries, IdsBelow}
use Rattle.multixact.proofs.Order.{all_below}
use Rattle.multixact.proofs.entries.Multis.are_below.Goals as goal

pub returns-else-len-eq0 : goal.returns-else-len-eq0
returns-else-len-eq0 c =
    let id = c.args.id in
    let e = c.index.result.now in
    let es = c.self.inside.entries.items in
    OnTrue_from (ltb e.id id) (IdsBelow id c.args.self.now.entries)
    (λ low. subst (λ (v : Entries). IdsBelow id v.entries) c.self.view_is (all_below es id (c.len-len.result - 1) e c.self.invariant c.index.ensures (omega (arith, c.self.inside.entries.ok)) (ltb-true e.id id low)))
