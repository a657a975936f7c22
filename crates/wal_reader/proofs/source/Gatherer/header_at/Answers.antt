use Rattle.std.proofs.Common.{◌≡◌, refl, ap, ◌∙◌, Some, Err}
use Rattle.wal_page.specs.declared.PageHead.{PageHead}
use Rattle.wal_reader.specs.Told.{told_bytes, header_at}
use Rattle.wal_reader.specs.Kept.{piece_of}
use Rattle.wal_reader.specs.Calls.{Says, SaysBytes, Gathering, told_to}
use Rattle.std.proofs.lemmas.Result.{err_from_is_err_and}
use Rattle.wal_reader.proofs.Answered.{where_map, header_wanting, header_there}
use Rattle.wal_reader.proofs.source.Gatherer.header_at.Goals as goal

pub returns-in_err-need-clause-answer : goal.returns-in_err-need-clause-answer
returns-in_err-need-clause-answer g c =
    let old = c.args.self.now in
    let at = c.args.at in
    let size = c.header_len-size.result in
    let e = c.in_err-need.field-0.0 in
    let p = err_from_is_err_and c.from_residual.result c.from_residual.ensures.1 in
    rw (p.1, p.2) (where_map (g.L.LogBytes.told c.args.log.now) (g.L.LogBytes.owner_of c.args.log.now) old c.need.new.self c.need.new.self
    (λ told. SaysBytes {A = Unit {0}} (Err e) (piece_of c.need.new.self.kept at size) (told_bytes told.byte size at))
    (λ told. Says {A = PageHead} (Err e) (header_at told at))
    refl
    (λ byte says. header_wanting (told_to old byte (g.L.LogBytes.owner_of c.args.log.now)) at size e (piece_of c.need.new.self.kept at size) c.header_len-size.ensures says)
    c.in_err-need.ensures.answer)

pub returns-clause-answer : goal.returns-clause-answer
returns-clause-answer g c =
    let old = c.args.self.now in
    let at = c.args.at in
    let size = c.header_len-size.result in
    let bytes = piece_of c.need.new.self.kept at size in
    let same = c.in_ok-need.ensures.same in
    let whole = c.self.view_is ∙ same in
    where_map (g.L.LogBytes.told c.args.log.now) (g.L.LogBytes.owner_of c.args.log.now) old c.need.new.self c.need.new.self
    (λ told. told_bytes told.byte size at ≡ Some bytes)
    (λ told. Says c.accepted.result (header_at told at))
    refl
    (λ byte there. header_there (told_to old byte (g.L.LogBytes.owner_of c.args.log.now)) at size bytes c.piece.result.now (Some (c.self.inside.system, c.self.inside.segsize)) c.owner-tli.result c.read_page_header.result c.accepted.result
    c.header_len-size.ensures there (c.piece.ensures ∙ ap (λ (s : Gathering). piece_of s.kept at size) c.self.view_is) (ap (λ (s : Gathering). Some (s.system, s.segsize)) whole) c.owner-tli.ensures c.read_page_header.ensures c.accepted.ensures.says)
    c.in_ok-need.ensures.answer
