use Rattle.std.proofs.Common.{◌≡◌, ◌-◌, List, true, length, ltb, arith, subst}
use Rattle.std.specs.List.{AllWithin}
use Rattle.std.proofs.lemmas.Bool.{OnTrue_from, ltb-true}
use Rattle.subtrans.specs.declared.Pair.{Pair}
use Rattle.subtrans.specs.Parents.{Parents}
use Rattle.subtrans.proofs.Order.{all_below}
use Rattle.subtrans.proofs.Subtrans.are_below.Goals as goal

pub returns-else-len-eq0 : goal.returns-else-len-eq0
returns-else-len-eq0 c =
    let x = c.args.x in
    let q = c.index.result.now in
    let qs = c.self.inside.pairs.items in
    let below = λ (qs : List Pair). AllWithin (λ (p : Pair). ltb p.sub x ≡ true) qs 0 (length qs) in
    OnTrue_from (ltb q.sub x) (below c.args.self.now.pairs)
    (λ e. subst (λ (v : Parents). below v.pairs) c.self.view_is (all_below qs x (c.len-len.result - 1) q c.self.invariant c.index.ensures (omega (arith, c.self.inside.pairs.ok)) (ltb-true q.sub x e)))
