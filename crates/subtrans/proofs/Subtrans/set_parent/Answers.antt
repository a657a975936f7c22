use Rattle.std.proofs.Common.{sym, subst}
use Rattle.subtrans.specs.declared.Pair.{Pair}
use Rattle.subtrans.specs.Parents.{Parents, IsFound, IsAbsent}
use Rattle.subtrans.proofs.Order.{InOrder-with_parent, set-with_parent, insert-with_parent}
use Rattle.subtrans.proofs.Subtrans.set_parent.Goals as goal

pub invariant_of-self : goal.invariant_of-self
invariant_of-self c =
    let qs = c.self.inside.pairs.items in
    let p : Pair = record { sub = c.args.sub.0; parent = c.args.parent.0 } in
    let found : IsFound qs p.sub c.in-Ok.at = subst (λ (v : Parents). IsFound v.pairs p.sub c.in-Ok.at) (sym c.self.view_is) c.in-Ok.ensures in
    rw (set-with_parent qs p c.in-Ok.at found) (InOrder-with_parent qs p c.self.invariant c.requires.below)

pub returns-in-Ok-clause-pairs : goal.returns-in-Ok-clause-pairs
returns-in-Ok-clause-pairs c =
    let qs = c.self.inside.pairs.items in
    let p : Pair = record { sub = c.args.sub.0; parent = c.args.parent.0 } in
    let found : IsFound qs p.sub c.in-Ok.at = subst (λ (v : Parents). IsFound v.pairs p.sub c.in-Ok.at) (sym c.self.view_is) c.in-Ok.ensures in
    rw (← c.self.view_is) (set-with_parent qs p c.in-Ok.at found)

pub invariant_of-self-in-Ok-insert : goal.invariant_of-self-in-Ok-insert
invariant_of-self-in-Ok-insert c =
    let qs = c.self.inside.pairs.items in
    let p : Pair = record { sub = c.args.sub.0; parent = c.args.parent.0 } in
    let absent : IsAbsent qs p.sub c.in-Err.at = subst (λ (v : Parents). IsAbsent v.pairs p.sub c.in-Err.at) (sym c.self.view_is) c.in-Err.ensures in
    rw (c.in-Ok-insert.ensures.items, insert-with_parent qs p c.in-Err.at absent) (InOrder-with_parent qs p c.self.invariant c.requires.below)
