use Rattle.std.proofs.Common.{sym, subst}
use Rattle.multixact.specs.Entries.{Entries, IsFound, IsAbsent}
use Rattle.multixact.proofs.Order.{InOrder-set, InOrder-insert, made_in-set, made_in-insert}
use Rattle.multixact.proofs.entries.Multis.put.Goals as goal

pub invariant_of-self : goal.invariant_of-self
invariant_of-self c =
    let e = c.args.entry in
    let found : IsFound c.self.inside.entries.items e.id c.in-Ok.at = subst (λ (v : Entries). IsFound v.entries e.id c.in-Ok.at) (sym c.self.view_is) c.in-Ok.ensures in
    InOrder-set c.self.inside.entries.items e c.in-Ok.at c.self.invariant found

pub returns-in-Ok-clause-made : goal.returns-in-Ok-clause-made
returns-in-Ok-clause-made c =
    let e = c.args.entry in
    let found : IsFound c.self.inside.entries.items e.id c.in-Ok.at = subst (λ (v : Entries). IsFound v.entries e.id c.in-Ok.at) (sym c.self.view_is) c.in-Ok.ensures in
    rw (← c.self.view_is) (made_in-set c.self.inside.entries.items e c.in-Ok.at found)

pub invariant_of-self-in-Ok-insert : goal.invariant_of-self-in-Ok-insert
invariant_of-self-in-Ok-insert c =
    let e = c.args.entry in
    let absent : IsAbsent c.self.inside.entries.items e.id c.in-Err.at = subst (λ (v : Entries). IsAbsent v.entries e.id c.in-Err.at) (sym c.self.view_is) c.in-Err.ensures in
    rw c.in-Ok-insert.ensures.items (InOrder-insert c.self.inside.entries.items e c.in-Err.at c.self.invariant absent)

pub returns-in-Ok-insert-clause-made : goal.returns-in-Ok-insert-clause-made
returns-in-Ok-insert-clause-made c =
    let e = c.args.entry in
    let absent : IsAbsent c.self.inside.entries.items e.id c.in-Err.at = subst (λ (v : Entries). IsAbsent v.entries e.id c.in-Err.at) (sym c.self.view_is) c.in-Err.ensures in
    rw (c.in-Ok-insert.ensures.items, ← c.self.view_is) (made_in-insert c.self.inside.entries.items e c.in-Err.at absent)
