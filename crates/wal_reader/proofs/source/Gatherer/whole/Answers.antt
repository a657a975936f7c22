use Rattle.std.proofs.Common.{◌≡◌, ◌-◌, ◌%◌, ◌≤◌, ◌∙◌, ℕ, List, ap, subst, arith}
use Rattle.std.proofs.lemmas.Option.{same_Some}
use Rattle.pg_types.specs.Numbers.{number_at}
use Rattle.wal_reader.specs.Calls.{Gathering}
use Rattle.wal_reader.specs.Kept.{IsInPage}
use Rattle.wal_reader.proofs.LentSteps.{in_page, told_in_page}
use Rattle.wal_reader.proofs.source.Gatherer.whole.Goals as goal

pub returns-clause-there : goal.returns-clause-there
returns-clause-there g c = λ x e.
    let start = c.args.start in
    let room = 8192 - start % 8192 in
    let kept = c.cover.new.self in
    subst (λ (n : ℕ). IsInPage kept start n) (same_Some c.u32_at-len.result x e)
    (in_page kept start room c.u32_at-len.result (c.in_ok-cover.ensures.covered c.if-not-branch.false) (λ z. c.if-room-eq-PAGE.false (omega arith)) (omega arith)
    (c.in_ok-cover.ensures.bounded c.if-not-branch.false) c.if-len-lt24.false c.if-len-room.false
    (c.u32_at-len.ensures ∙ ap (λ (xs : List ℕ). number_at 4 xs 0) c.piece.ensures))

pub returns-clause-answer : goal.returns-clause-answer
returns-clause-answer g c =
    told_in_page (g.L.LogBytes.told c.args.log.now) c.self.inside.window c.args.self.now.kept c.cover.new.self c.args.start (8192 - c.args.start % 8192) c.u32_at-len.result
    (ap (λ (s : Gathering). s.kept) c.self.view_is) (c.in_ok-cover.ensures.covered c.if-not-branch.false) c.if-len-room.false c.in_ok-cover.ensures.told
