use Rattle.std.proofs.Common.{refl, ap, None, Ok, Err}
use Rattle.wal_reader.specs.Gathered.{gathered}
use Rattle.wal_reader.specs.Step.{begun}
use Rattle.wal_reader.specs.Calls.{Gathering, SaysText, SaysHead, told_to}
use Rattle.std.proofs.lemmas.Result.{err_from_is_err_and}
use Rattle.wal_reader.proofs.Answered.{where_map}
use Rattle.wal_reader.proofs.RecordSteps.{where_from, begin_unread, begin_refused, begin_there}
use Rattle.wal_reader.proofs.source.Gatherer.begin.Goals as goal

pub returns-in_err-at-clause-answer : goal.returns-in_err-at-clause-answer
returns-in_err-at-clause-answer g c =
    let old = c.args.self.now in
    let e = c.in_err-at.field-0.0 in
    let p = err_from_is_err_and c.from_residual.result c.from_residual.ensures.1 in
    rw (p.1, p.2) (where_map (g.L.LogBytes.told c.args.log.now) (g.L.LogBytes.owner_of c.args.log.now) old c.gather.new.self c.gather.new.self
    (λ told. SaysText (Err e) c.clear.new.self.text c.gather.new.self.text (gathered told None 4 c.args.start))
    (λ told. SaysHead (Err e) c.gather.new.self.text (begun told c.args.start))
    refl
    (λ byte says. begin_unread (told_to old byte (g.L.LogBytes.owner_of c.args.log.now)) c.args.start e c.clear.new.self.text c.gather.new.self.text c.gather.new.self.text says)
    (where_from (g.L.LogBytes.told c.args.log.now) (g.L.LogBytes.owner_of c.args.log.now) old c.clear.new.self c.gather.new.self
    (λ told. SaysText (Err e) c.clear.new.self.text c.gather.new.self.text (gathered told None 4 c.args.start)) c.clear.ensures c.in_err-at.ensures.answer))

pub returns-in_err-total-clause-answer : goal.returns-in_err-total-clause-answer
returns-in_err-total-clause-answer g c =
    let old = c.args.self.now in
    let e = c.in_err-total.field-0.0 in
    let p = err_from_is_err_and c.from_residual-in_err-total.result c.from_residual-in_err-total.ensures.1 in
    let text = c.text.ensures in
    let says = rw c.text.ensures at c.in_err-total.ensures.says in
    rw (p.1, p.2) (where_map (g.L.LogBytes.told c.args.log.now) (g.L.LogBytes.owner_of c.args.log.now) old c.gather.new.self c.gather.new.self
    (λ told. SaysText (Ok c.in_ok-at.at) c.clear.new.self.text c.gather.new.self.text (gathered told None 4 c.args.start))
    (λ told. SaysHead (Err e) c.gather.new.self.text (begun told c.args.start))
    refl
    (λ byte read. begin_refused (told_to old byte (g.L.LogBytes.owner_of c.args.log.now)) c.args.start e c.clear.new.self.text c.gather.new.self.text c.gather.new.self.text c.in_ok-at.at
    (ap (λ (s : Gathering). s.text) c.clear.ensures) read says)
    (where_from (g.L.LogBytes.told c.args.log.now) (g.L.LogBytes.owner_of c.args.log.now) old c.clear.new.self c.gather.new.self
    (λ told. SaysText (Ok c.in_ok-at.at) c.clear.new.self.text c.gather.new.self.text (gathered told None 4 c.args.start)) c.clear.ensures c.in_ok-at.ensures.answer))

pub returns-clause-answer : goal.returns-clause-answer
returns-clause-answer g c =
    let old = c.args.self.now in
    let says = rw c.text.ensures at c.in_ok-total.ensures.says in
    where_map (g.L.LogBytes.told c.args.log.now) (g.L.LogBytes.owner_of c.args.log.now) old c.gather.new.self c.gather.new.self
    (λ told. SaysText (Ok c.in_ok-at.at) c.clear.new.self.text c.gather.new.self.text (gathered told None 4 c.args.start))
    (λ told. SaysHead (Ok (c.in_ok-total.total, c.in_ok-at.at)) c.gather.new.self.text (begun told c.args.start))
    refl
    (λ byte read. begin_there (told_to old byte (g.L.LogBytes.owner_of c.args.log.now)) c.args.start c.clear.new.self.text c.gather.new.self.text c.in_ok-at.at c.in_ok-total.total
    (ap (λ (s : Gathering). s.text) c.clear.ensures) read says)
    (where_from (g.L.LogBytes.told c.args.log.now) (g.L.LogBytes.owner_of c.args.log.now) old c.clear.new.self c.gather.new.self
    (λ told. SaysText (Ok c.in_ok-at.at) c.clear.new.self.text c.gather.new.self.text (gathered told None 4 c.args.start)) c.clear.ensures c.in_ok-at.ensures.answer)
