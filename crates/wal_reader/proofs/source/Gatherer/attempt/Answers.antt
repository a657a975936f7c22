use Rattle.std.proofs.Common.{◌≡◌, refl, sym, ap, subst, ℕ, Some, arith}
use Rattle.std.proofs.lemmas.Option.{same_Some}
use Rattle.wal_reader.specs.Told.{told_bytes}
use Rattle.wal_reader.specs.Kept.{Covers, piece_of}
use Rattle.wal_reader.specs.Step.{attempt}
use Rattle.wal_reader.specs.Calls.{Gathering, told_to}
use Rattle.wal_reader.specs.Records.{SaysAttempt}
use Rattle.wal_reader.proofs.LentSteps as steps
use Rattle.wal_reader.proofs.Answered.{where_found, where_map}
use Rattle.wal_reader.proofs.source.Gatherer.attempt.Goals as goal

pub overflow_add-start : goal.overflow_add-start
overflow_add-start g c =
    let page = c.in_ok-found.ensures.there c.in-Some.len c.in-Some.is in
    let below = page.below in
    omega arith

pub end-requires-clause-bounded : goal.end-requires-clause-bounded
end-requires-clause-bounded g c =
    let page = c.in_ok-found.ensures.there c.in-Some.len c.in-Some.is in
    page.below

pub end-requires-clause-there : goal.end-requires-clause-there
end-requires-clause-there g c =
    let page = c.in_ok-found.ensures.there c.in-Some.len c.in-Some.is in
    λ x e. subst (λ (n : ℕ). Covers c.whole.new.self.kept c.args.start n) (same_Some c.in-Some.len x e) page.covered

pub returns-in-Some-clause-answer : goal.returns-in-Some-clause-answer
returns-in-Some-clause-answer g c =
    let old = c.args.self.now in
    let new = c.whole.new.self in
    let len = c.in-Some.len in
    let page = c.in_ok-found.ensures.there c.in-Some.len c.in-Some.is in
    let same = c.in_ok-found.ensures.same in
    where_map (g.L.LogBytes.told c.args.log.now) (g.L.LogBytes.owner_of c.args.log.now) old new new
    (λ told. told_bytes told.byte len c.args.start ≡ Some (piece_of new.kept c.args.start len))
    (λ told. SaysAttempt c.end.result new c.args.prev (attempt told c.args.start c.args.prev))
    refl
    (λ byte all. steps.lent_says (told_to old byte (g.L.LogBytes.owner_of c.args.log.now)) new c.args.start len c.args.prev c.end.result page
    (sym (ap (λ (s : Gathering). s.segsize) same)) all c.end.ensures.says)
    (where_found (g.L.LogBytes.told c.args.log.now) (g.L.LogBytes.owner_of c.args.log.now) old new c.in_ok-found.found len
    (λ byte n. told_bytes byte n c.args.start ≡ Some (piece_of new.kept c.args.start n)) c.in-Some.is c.in_ok-found.ensures.told c.in_ok-found.ensures.answer)
