use Rattle.std.proofs.Common.{rules, ◌≡◌, ◌-◌, ◌∙◌, suc, sym, arith, ap, length}
use Rattle.typed_records.proofs.Walks.{held_none, none_refused, one_less, stands_listed, stands_on}
use Rattle.typed_records.proofs.new_tuples.NewTuplesIterator.next.Goals as goal

pub returns-then-self-eq0-clause-steps : goal.returns-then-self-eq0-clause-steps
returns-then-self-eq0-clause-steps c =
    let t = c.self.inside in
    let none = sym c.self.view_is ∙ held_none t.is_listed t.bytes.now t.at t.count t.prefix t.suffix c.if-self-eq0.true in
    (none, none)

pub invariant_of-self-in-Ok : goal.invariant_of-self-in-Ok
invariant_of-self-in-Ok c =
    let t = c.self.inside in
    let k : t.count ≡ suc (t.count - 1) = omega arith in
    stands_on t.is_listed t.bytes.now t.at t.count _ c.in-Ok.tuple c.in-Ok.end c.if-not-self.false k c.in-Ok.ensures.inside c.self.invariant (sym c.listed_at.ensures.exact ∙ c.in-Ok.is)

pub unreachable-requires : goal.unreachable-requires
unreachable-requires c =
    let t = c.self.inside in
    let k : t.count ≡ suc (t.count - 1) = omega arith in
    let there = stands_listed t.is_listed t.bytes.now t.at t.count c.if-not-self.false c.self.invariant in
    none_refused t.bytes.now t.at t.count _ c.in-Err.field-0 k there.read (sym c.listed_at.ensures.exact ∙ c.in-Err.is)

pub returns-clause-steps : goal.returns-clause-steps
returns-clause-steps c =
    let t = c.self.inside in
    let k : t.count ≡ suc (t.count - 1) = omega arith in
    let there = stands_listed t.is_listed t.bytes.now t.at t.count c.if-not-self.false c.self.invariant in
    sym c.self.view_is
    ∙ one_less t.is_listed t.bytes.now t.at t.count _ t.prefix t.suffix c.in-Ok.tuple c.in-Ok.end c.if-not-self.false k there.read (sym c.listed_at.ensures.exact ∙ c.in-Ok.is)

pub returns-clause-goes : goal.returns-clause-goes
returns-clause-goes c =
    let shorter = ap length (returns-clause-steps c) in
    search (rules, shorter)
