use Rattle.std.proofs.Common.{◌≡◌, ◌-◌, refl, ap, ◌∙◌, Some, Ok, Err}
use Rattle.wal_reader.specs.Gathered.{gathered}
use Rattle.wal_reader.specs.Step.{headed, attempt}
use Rattle.wal_reader.specs.Calls.{Gathering, SaysText, SaysHead, told_to}
use Rattle.wal_reader.specs.Records.{SaysAttempt}
use Rattle.std.proofs.lemmas.Result.{err_from_is_err_and}
use Rattle.wal_reader.proofs.Answered.{where_map, where_chain}
use Rattle.wal_reader.proofs.RecordSteps as steps
use Rattle.wal_reader.proofs.source.Gatherer.gather_record.Goals as goal

pub returns-in_err-total-clause-answer : goal.returns-in_err-total-clause-answer
returns-in_err-total-clause-answer g c =
    let old = c.args.self.now in
    let e = c.in_err-total.field-0.0 in
    let p = err_from_is_err_and c.from_residual.result c.from_residual.ensures.1 in
    rw (p.1, p.2) (where_map (g.L.LogBytes.told c.args.log.now) (g.L.LogBytes.owner_of c.args.log.now) old c.head.new.self c.head.new.self
    (λ told. SaysHead (Err e) c.head.new.self.text (headed told c.args.start c.args.prev))
    (λ told. SaysAttempt (Err e) c.head.new.self c.args.prev (attempt told c.args.start c.args.prev))
    refl
    (λ byte says. steps.record_headless (told_to old byte (g.L.LogBytes.owner_of c.args.log.now)) c.args.start c.args.prev e c.head.new.self.text c.head.new.self says)
    c.in_err-total.ensures.answer)

pub returns-in_err-behind-clause-answer : goal.returns-in_err-behind-clause-answer
returns-in_err-behind-clause-answer g c =
    let old = c.args.self.now in
    let e = c.in_err-behind.field-0.0 in
    let p = err_from_is_err_and c.from_residual-in_err-behind.result c.from_residual-in_err-behind.ensures.1 in
    let total = c.in_ok-total.total in
    let at = c.in_ok-total.at in
    let same = c.in_ok-total.ensures.same in
    let stays = c.in_ok-total.ensures.stays in
    let text = c.head.new.self.text in
    rw (p.1, p.2) (where_chain (g.L.LogBytes.told c.args.log.now) (g.L.LogBytes.told c.head.new.log) (g.L.LogBytes.owner_of c.args.log.now) (g.L.LogBytes.owner_of c.head.new.log)
    old c.head.new.self c.gather.new.self c.gather.new.self
    (λ told. headed told c.args.start c.args.prev ≡ Ok (total, (text, at)))
    (λ told. SaysText (Err e) text c.gather.new.self.text (gathered told (Some (total - 24)) (total - 24) at))
    (λ told. SaysAttempt (Err e) c.gather.new.self c.args.prev (attempt told c.args.start c.args.prev))
    stays.told_stays stays.owner_stays (ap (λ (s : Gathering). s.system) same) (ap (λ (s : Gathering). s.segsize) same) refl
    (λ byte first says. steps.record_unread (told_to old byte (g.L.LogBytes.owner_of c.args.log.now)) c.args.start c.args.prev e total at text c.gather.new.self.text c.gather.new.self first says)
    c.in_ok-total.ensures.answer c.in_err-behind.ensures.answer)

pub returns-clause-answer : goal.returns-clause-answer
returns-clause-answer g c =
    let old = c.args.self.now in
    let total = c.in_ok-total.total in
    let at = c.in_ok-total.at in
    let behind = c.in_ok-behind.behind in
    let same = c.in_ok-total.ensures.same in
    let later = c.in_ok-behind.ensures.same in
    let stays = c.in_ok-total.ensures.stays in
    let text = c.head.new.self.text in
    where_chain (g.L.LogBytes.told c.args.log.now) (g.L.LogBytes.told c.head.new.log) (g.L.LogBytes.owner_of c.args.log.now) (g.L.LogBytes.owner_of c.head.new.log)
    old c.head.new.self c.gather.new.self c.gather.new.self
    (λ told. headed told c.args.start c.args.prev ≡ Ok (total, (text, at)))
    (λ told. SaysText (Ok behind) text c.gather.new.self.text (gathered told (Some (total - 24)) (total - 24) at))
    (λ told. SaysAttempt c.end.result c.gather.new.self c.args.prev (attempt told c.args.start c.args.prev))
    stays.told_stays stays.owner_stays (ap (λ (s : Gathering). s.system) same) (ap (λ (s : Gathering). s.segsize) same) refl
    (λ byte first read. steps.record_read (told_to old byte (g.L.LogBytes.owner_of c.args.log.now)) c.args.start c.args.prev c.end.result total at behind text c.gather.new.self first read
    (ap (λ (s : Gathering). s.segsize) later ∙ ap (λ (s : Gathering). s.segsize) same) c.end.ensures.says)
    c.in_ok-total.ensures.answer c.in_ok-behind.ensures.answer

pub returns-in_err-behind-clause-same_log : goal.returns-in_err-behind-clause-same_log
returns-in_err-behind-clause-same_log g c =
    g.met.L.LogBytes.same_later c.args.log.now c.head.new.log c.gather.new.log c.in_ok-total.ensures.same_log c.in_err-behind.ensures.same_log

pub returns-clause-same_log : goal.returns-clause-same_log
returns-clause-same_log g c =
    g.met.L.LogBytes.same_later c.args.log.now c.head.new.log c.gather.new.log c.in_ok-total.ensures.same_log c.in_ok-behind.ensures.same_log
