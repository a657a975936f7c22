use Rattle.std.proofs.Common.{◌≡◌, ◌+◌, ◌++◌, refl, ap, ◌∙◌, ℕ, Some, Ok, Err, List, arith}
use Rattle.wal_reader.specs.Told.{told_bytes}
use Rattle.wal_reader.specs.Kept.{piece_of}
use Rattle.wal_reader.specs.Gathered.{place_at, gathered}
use Rattle.wal_reader.specs.Calls.{Gathering, Says, SaysBytes, SaysPart, told_to}
use Rattle.std.proofs.lemmas.Result.{err_from_is_err_and}
use Rattle.wal_reader.proofs.Answered.{where_map, where_chain, part_nowhere, part_wanting, part_there}
use Rattle.wal_reader.proofs.source.Gatherer.gather_page.Goals as goal

pub returns-in_err-place-clause-answer : goal.returns-in_err-place-clause-answer
returns-in_err-place-clause-answer g c =
    let old = c.args.self.now in
    let e = c.in_err-place.field-0.0 in
    let p = err_from_is_err_and c.from_residual.result c.from_residual.ensures.1 in
    rw (p.1, p.2) (where_map (g.L.LogBytes.told c.args.log.now) (g.L.LogBytes.owner_of c.args.log.now) old c.place_at.new.self c.place_at.new.self
    (λ told. Says {A = ℕ} (Err e) (place_at told c.args.missing c.args.at))
    (λ told. SaysPart (Err e) c.args.left old.text c.place_at.new.self.text (λ n. gathered told c.args.missing n c.args.at))
    refl
    (λ byte says. part_nowhere (told_to old byte (g.L.LogBytes.owner_of c.args.log.now)) c.args.missing c.args.at c.args.left e old.text c.place_at.new.self.text c.requires says)
    c.in_err-place.ensures.answer)

pub returns-in_err-need-clause-answer : goal.returns-in_err-need-clause-answer
returns-in_err-need-clause-answer g c =
    let old = c.args.self.now in
    let e = c.in_err-need.field-0.0 in
    let p = err_from_is_err_and c.from_residual-in_err-need.result c.from_residual-in_err-need.ensures.1 in
    let place = c.in_ok-place.place in
    let room = c.min-room.result in
    let small = c.min-room.ensures in
    let same = c.in_ok-place.ensures.same in
    let stays = c.in_ok-place.ensures.stays in
    let bytes = piece_of c.need.new.self.kept place room in
    rw (p.1, p.2) (where_chain (g.L.LogBytes.told c.args.log.now) (g.L.LogBytes.told c.place_at.new.log) (g.L.LogBytes.owner_of c.args.log.now) (g.L.LogBytes.owner_of c.place_at.new.log)
    old c.place_at.new.self c.need.new.self c.need.new.self
    (λ told. place_at told c.args.missing c.args.at ≡ Ok place)
    (λ told. SaysBytes {A = Unit {0}} (Err e) bytes (told_bytes told.byte room place))
    (λ told. SaysPart (Err e) c.args.left old.text c.need.new.self.text (λ n. gathered told c.args.missing n c.args.at))
    stays.told_stays stays.owner_stays (ap (λ (s : Gathering). s.system) same) (ap (λ (s : Gathering). s.segsize) same) refl
    (λ byte here says. part_wanting (told_to old byte (g.L.LogBytes.owner_of c.args.log.now)) c.args.missing c.args.at c.args.left place room e bytes old.text c.need.new.self.text
    (omega (arith, small)) (omega (arith, small)) (omega (arith, small)) here says)
    c.in_ok-place.ensures.answer c.in_err-need.ensures.answer)

pub returns-clause-answer : goal.returns-clause-answer
returns-clause-answer g c =
    let old = c.args.self.now in
    let place = c.in_ok-place.place in
    let room = c.min-room.result in
    let small = c.min-room.ensures in
    let same = c.in_ok-place.ensures.same in
    let later = c.in_ok-need.ensures.same in
    let stays = c.in_ok-place.ensures.stays in
    let bytes = piece_of c.need.new.self.kept place room in
    let added = c.in_ok-add.ensures.ok in
    let text : c.need.new.self.text ≡ old.text = ap (λ (s : Gathering). s.text) (later) ∙ ap (λ (s : Gathering). s.text) same in
    let more : c.add.new.self.text ≡ old.text ++ bytes = ap (λ (s : Gathering). s.text) added ∙ ap (λ (t : List ℕ). t ++ bytes) text in
    where_chain (g.L.LogBytes.told c.args.log.now) (g.L.LogBytes.told c.place_at.new.log) (g.L.LogBytes.owner_of c.args.log.now) (g.L.LogBytes.owner_of c.place_at.new.log)
    old c.place_at.new.self c.need.new.self c.add.new.self
    (λ told. place_at told c.args.missing c.args.at ≡ Ok place)
    (λ told. told_bytes told.byte room place ≡ Some bytes)
    (λ told. SaysPart (Ok (place + room, room)) c.args.left old.text c.add.new.self.text (λ n. gathered told c.args.missing n c.args.at))
    stays.told_stays stays.owner_stays (ap (λ (s : Gathering). s.system) same) (ap (λ (s : Gathering). s.segsize) same) (ap (λ (s : Gathering). s.kept) added)
    (λ byte here there. part_there (told_to old byte (g.L.LogBytes.owner_of c.args.log.now)) c.args.missing c.args.at c.args.left place room bytes old.text c.add.new.self.text
    (omega (arith, small)) (omega (arith, small)) (omega (arith, small)) here there more)
    c.in_ok-place.ensures.answer c.in_ok-need.ensures.answer

pub returns-in_err-need-clause-same_log : goal.returns-in_err-need-clause-same_log
returns-in_err-need-clause-same_log g c =
    g.met.L.LogBytes.same_later c.args.log.now c.place_at.new.log c.need.new.log c.in_ok-place.ensures.same_log c.in_err-need.ensures.same_log

pub returns-in_err-add-clause-same_log : goal.returns-in_err-add-clause-same_log
returns-in_err-add-clause-same_log g c =
    g.met.L.LogBytes.same_later c.args.log.now c.place_at.new.log c.need.new.log c.in_ok-place.ensures.same_log c.in_ok-need.ensures.same_log

pub returns-clause-same_log : goal.returns-clause-same_log
returns-clause-same_log g c =
    g.met.L.LogBytes.same_later c.args.log.now c.place_at.new.log c.need.new.log c.in_ok-place.ensures.same_log c.in_ok-need.ensures.same_log
