use Rattle.std.proofs.Common.{◌≡◌, ◌%◌, ◌==◌, refl, ap, ◌∙◌, ℕ, Ok, Err}
use Rattle.wal_page.specs.declared.PageHead.{PageHead}
use Rattle.wal_reader.specs.Told.{header_at}
use Rattle.wal_reader.specs.Gathered.{place_at}
use Rattle.wal_reader.specs.Calls.{Says, told_to, Gathering}
use Rattle.wal_page.specs.Page.{header_length}
use Rattle.wal_reader.proofs.GatheredSteps.{inside_page}
use Rattle.std.proofs.lemmas.Result.{err_from_is_err_and}
use Rattle.wal_reader.proofs.Answered.{where_start, where_map, place_behind, place_wanting}
use Rattle.wal_reader.proofs.source.Gatherer.place_at.Goals as goal

pub returns-then-at-ne0-clause-answer : goal.returns-then-at-ne0-clause-answer
returns-then-at-ne0-clause-answer g c =
    where_start (g.L.LogBytes.told c.args.log.now) (g.L.LogBytes.owner_of c.args.log.now) c.args.self.now
    (λ told. Says (Ok c.args.at) (place_at told c.args.missing c.args.at))
    (λ byte. inside_page (told_to c.args.self.now byte (g.L.LogBytes.owner_of c.args.log.now)) c.args.missing c.args.at c.if-at-ne0.true)

pub returns-in_err-head-clause-answer : goal.returns-in_err-head-clause-answer
returns-in_err-head-clause-answer g c =
    let old = c.args.self.now in
    let e = c.in_err-head.field-0.0 in
    let p = err_from_is_err_and c.from_residual.result c.from_residual.ensures.1 in
    rw (p.1, p.2) (where_map (g.L.LogBytes.told c.args.log.now) (g.L.LogBytes.owner_of c.args.log.now) old c.header_at.new.self c.header_at.new.self
    (λ told. Says {A = PageHead} (Err e) (header_at told c.args.at))
    (λ told. Says {A = ℕ} (Err e) (place_at told c.args.missing c.args.at))
    refl
    (λ byte says. place_wanting (told_to old byte (g.L.LogBytes.owner_of c.args.log.now)) c.args.missing c.args.at e c.if-at-ne0.false says)
    c.in_err-head.ensures.answer)

pub returns-clause-answer : goal.returns-clause-answer
returns-clause-answer g c =
    let old = c.args.self.now in
    let head = c.in_ok-head.head in
    let len = c.header_len.ensures in
    let same = c.in_ok-head.ensures.same in
    where_map (g.L.LogBytes.told c.args.log.now) (g.L.LogBytes.owner_of c.args.log.now) old c.header_at.new.self c.header_at.new.self
    (λ told. header_at told c.args.at ≡ Ok head)
    (λ told. Says c.enters.result (place_at told c.args.missing c.args.at))
    refl
    (λ byte says. place_behind (told_to old byte (g.L.LogBytes.owner_of c.args.log.now)) c.args.missing c.args.at c.header_len.result head c.enters.result
    c.if-at-ne0.false (len ∙ ap (λ (s : Gathering). header_length (c.args.at % s.segsize == 0)) same) says c.enters.ensures.says)
    c.in_ok-head.ensures.answer
