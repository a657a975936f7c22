use Rattle.std.proofs.Common.{◌≡◌, ◌-◌, refl, ap, Some, Ok, Err}
use Rattle.wal_reader.specs.Gathered.{gathered}
use Rattle.wal_reader.specs.Step.{begun, headed}
use Rattle.wal_reader.specs.Calls.{Gathering, SaysText, SaysHead, told_to}
use Rattle.std.proofs.lemmas.Result.{err_from_is_err_and}
use Rattle.wal_reader.proofs.Answered.{where_map, where_chain}
use Rattle.wal_reader.proofs.RecordSteps as steps
use Rattle.wal_reader.proofs.source.Gatherer.head.Goals as goal

pub returns-in_err-total-clause-answer : goal.returns-in_err-total-clause-answer
returns-in_err-total-clause-answer g c =
    let old = c.args.self.now in
    let e = c.in_err-total.field-0.0 in
    let p = err_from_is_err_and c.from_residual.result c.from_residual.ensures.1 in
    rw (p.1, p.2) (where_map (g.L.LogBytes.told c.args.log.now) (g.L.LogBytes.owner_of c.args.log.now) old c.begin.new.self c.begin.new.self
    (λ told. SaysHead (Err e) c.begin.new.self.text (begun told c.args.start))
    (λ told. SaysHead (Err e) c.begin.new.self.text (headed told c.args.start c.args.prev))
    refl
    (λ byte says. steps.head_unbegun (told_to old byte (g.L.LogBytes.owner_of c.args.log.now)) c.args.start c.args.prev e c.begin.new.self.text c.begin.new.self.text says)
    c.in_err-total.ensures.answer)

pub returns-in_err-end-clause-answer : goal.returns-in_err-end-clause-answer
returns-in_err-end-clause-answer g c =
    let old = c.args.self.now in
    let e = c.in_err-end.field-0.0 in
    let p = err_from_is_err_and c.from_residual-in_err-end.result c.from_residual-in_err-end.ensures.1 in
    let total = c.in_ok-total.total in
    let at = c.in_ok-total.at in
    let same = c.in_ok-total.ensures.same in
    let stays = c.in_ok-total.ensures.stays in
    let text = c.begin.new.self.text in
    rw (p.1, p.2) (where_chain (g.L.LogBytes.told c.args.log.now) (g.L.LogBytes.told c.begin.new.log) (g.L.LogBytes.owner_of c.args.log.now) (g.L.LogBytes.owner_of c.begin.new.log)
    old c.begin.new.self c.gather.new.self c.gather.new.self
    (λ told. begun told c.args.start ≡ Ok (total, (text, at)))
    (λ told. SaysText (Err e) text c.gather.new.self.text (gathered told (Some (total - 4)) 20 at))
    (λ told. SaysHead (Err e) c.gather.new.self.text (headed told c.args.start c.args.prev))
    stays.told_stays stays.owner_stays (ap (λ (s : Gathering). s.system) same) (ap (λ (s : Gathering). s.segsize) same) refl
    (λ byte first says. steps.head_unread (told_to old byte (g.L.LogBytes.owner_of c.args.log.now)) c.args.start c.args.prev e total at text c.gather.new.self.text c.gather.new.self.text first says)
    c.in_ok-total.ensures.answer c.in_err-end.ensures.answer)

pub returns-in_err-test_head-clause-answer : goal.returns-in_err-test_head-clause-answer
returns-in_err-test_head-clause-answer g c =
    let old = c.args.self.now in
    let e = c.in_err-test_head.field-0.0 in
    let p = err_from_is_err_and c.from_residual-in_err-test_head.result c.from_residual-in_err-test_head.ensures.1 in
    let total = c.in_ok-total.total in
    let at = c.in_ok-total.at in
    let end = c.in_ok-end.end in
    let same = c.in_ok-total.ensures.same in
    let stays = c.in_ok-total.ensures.stays in
    let text = c.begin.new.self.text in
    let tested = rw c.text.ensures at c.in_err-test_head.ensures.says in
    rw (p.1, p.2) (where_chain (g.L.LogBytes.told c.args.log.now) (g.L.LogBytes.told c.begin.new.log) (g.L.LogBytes.owner_of c.args.log.now) (g.L.LogBytes.owner_of c.begin.new.log)
    old c.begin.new.self c.gather.new.self c.gather.new.self
    (λ told. begun told c.args.start ≡ Ok (total, (text, at)))
    (λ told. SaysText (Ok end) text c.gather.new.self.text (gathered told (Some (total - 4)) 20 at))
    (λ told. SaysHead (Err e) c.gather.new.self.text (headed told c.args.start c.args.prev))
    stays.told_stays stays.owner_stays (ap (λ (s : Gathering). s.system) same) (ap (λ (s : Gathering). s.segsize) same) refl
    (λ byte first read. steps.head_refused (told_to old byte (g.L.LogBytes.owner_of c.args.log.now)) c.args.start c.args.prev e total at end text c.gather.new.self.text c.gather.new.self.text first read tested)
    c.in_ok-total.ensures.answer c.in_ok-end.ensures.answer)

pub returns-clause-answer : goal.returns-clause-answer
returns-clause-answer g c =
    let old = c.args.self.now in
    let total = c.in_ok-total.total in
    let at = c.in_ok-total.at in
    let end = c.in_ok-end.end in
    let same = c.in_ok-total.ensures.same in
    let stays = c.in_ok-total.ensures.stays in
    let text = c.begin.new.self.text in
    let tested = rw c.text.ensures at c.in_ok-test_head.ensures.says in
    where_chain (g.L.LogBytes.told c.args.log.now) (g.L.LogBytes.told c.begin.new.log) (g.L.LogBytes.owner_of c.args.log.now) (g.L.LogBytes.owner_of c.begin.new.log)
    old c.begin.new.self c.gather.new.self c.gather.new.self
    (λ told. begun told c.args.start ≡ Ok (total, (text, at)))
    (λ told. SaysText (Ok end) text c.gather.new.self.text (gathered told (Some (total - 4)) 20 at))
    (λ told. SaysHead (Ok (total, end)) c.gather.new.self.text (headed told c.args.start c.args.prev))
    stays.told_stays stays.owner_stays (ap (λ (s : Gathering). s.system) same) (ap (λ (s : Gathering). s.segsize) same) refl
    (λ byte first read. steps.head_there (told_to old byte (g.L.LogBytes.owner_of c.args.log.now)) c.args.start c.args.prev total at end text c.gather.new.self.text first read tested)
    c.in_ok-total.ensures.answer c.in_ok-end.ensures.answer

pub returns-in_err-end-clause-same_log : goal.returns-in_err-end-clause-same_log
returns-in_err-end-clause-same_log g c =
    g.met.L.LogBytes.same_later c.args.log.now c.begin.new.log c.gather.new.log c.in_ok-total.ensures.same_log c.in_err-end.ensures.same_log

pub returns-in_err-test_head-clause-same_log : goal.returns-in_err-test_head-clause-same_log
returns-in_err-test_head-clause-same_log g c =
    g.met.L.LogBytes.same_later c.args.log.now c.begin.new.log c.gather.new.log c.in_ok-total.ensures.same_log c.in_ok-end.ensures.same_log

pub returns-clause-same_log : goal.returns-clause-same_log
returns-clause-same_log g c =
    g.met.L.LogBytes.same_later c.args.log.now c.begin.new.log c.gather.new.log c.in_ok-total.ensures.same_log c.in_ok-end.ensures.same_log
