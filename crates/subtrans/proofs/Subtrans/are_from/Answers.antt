use Rattle.std.proofs.Common.{◌≡◌, List, false, length, leb, ltb, subst}
use Rattle.std.specs.List.{AllWithin}
use Rattle.std.proofs.lemmas.Bool.{OnTrue_from, leb-true}
use Rattle.subtrans.specs.declared.Pair.{Pair}
use Rattle.subtrans.specs.Parents.{Parents}
use Rattle.subtrans.proofs.Order.{none_below}
use Rattle.subtrans.proofs.Subtrans.are_from.Goals as goal

pub returns-else-len-eq0 : goal.returns-else-len-eq0
returns-else-len-eq0 c =
    let x = c.args.x in
    let q = c.index.result.now in
    let qs = c.self.inside.pairs.items in
    let from = λ (qs : List Pair). AllWithin (λ (p : Pair). ltb p.sub x ≡ false) qs 0 (length qs) in
    OnTrue_from (leb x q.sub) (from c.args.self.now.pairs)
    (λ e. subst (λ (v : Parents). from v.pairs) c.self.view_is (none_below qs x q c.self.invariant c.index.ensures (leb-true x q.sub e)))
