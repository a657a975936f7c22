use Rattle.std.proofs.Common.{◌≡◌, refl, sym, ap, ◌∙◌, ℕ, None, Ok, Err}
use Rattle.wal_reader.specs.Halt.{GivesUp}
use Rattle.wal_reader.specs.Gathered.{place_at}
use Rattle.wal_reader.specs.Step.{attempt, in_place_of, step}
use Rattle.wal_reader.specs.Calls.{Gathering, Says, told_to}
use Rattle.wal_reader.specs.Records.{SaysAttempt, SaysStep}
use Rattle.std.proofs.lemmas.Result.{err_from_is_err_and}
use Rattle.wal_reader.proofs.Answered.{where_map, where_chain}
use Rattle.wal_reader.proofs.StepSteps as steps
use Rattle.wal_reader.proofs.source.Gatherer.step.Goals as goal

pub returns-in_err-start-clause-answer : goal.returns-in_err-start-clause-answer
returns-in_err-start-clause-answer g c =
    let old = c.args.self.now in
    let e = c.in_err-start.field-0.0 in
    let p = err_from_is_err_and c.from_residual.result c.from_residual.ensures.1 in
    rw (p.1, p.2) (where_map (g.L.LogBytes.told c.args.log.now) (g.L.LogBytes.owner_of c.args.log.now) old c.place_at.new.self c.place_at.new.self
    (λ told. Says {A = ℕ} (Err e) (place_at told None c.args.at))
    (λ told. SaysStep (Err e) c.place_at.new.self c.args.prev (step told c.args.at c.args.prev))
    refl
    (λ byte says. steps.step_nowhere (told_to old byte (g.L.LogBytes.owner_of c.args.log.now)) c.args.at c.args.prev e c.place_at.new.self says)
    c.in_err-start.ensures.answer)

pub returns-in-None-clause-answer : goal.returns-in-None-clause-answer
returns-in-None-clause-answer g c =
    let old = c.args.self.now in
    let start = c.in_ok-start.start in
    let same = c.in_ok-start.ensures.same in
    let stays = c.in_ok-start.ensures.stays in
    where_chain (g.L.LogBytes.told c.args.log.now) (g.L.LogBytes.told c.place_at.new.log) (g.L.LogBytes.owner_of c.args.log.now) (g.L.LogBytes.owner_of c.place_at.new.log)
    old c.place_at.new.self c.attempt-answer.new.self c.attempt-answer.new.self
    (λ told. place_at told None c.args.at ≡ Ok start)
    (λ told. SaysAttempt c.attempt-answer.result c.attempt-answer.new.self c.args.prev (attempt told start c.args.prev))
    (λ told. SaysStep c.attempt-answer.result c.attempt-answer.new.self c.args.prev (step told c.args.at c.args.prev))
    stays.told_stays stays.owner_stays (ap (λ (s : Gathering). s.system) same) (ap (λ (s : Gathering). s.segsize) same) refl
    (λ byte here says. steps.step_attempted (told_to old byte (g.L.LogBytes.owner_of c.args.log.now)) c.args.at c.args.prev start c.attempt-answer.result c.attempt-answer.new.self here (sym c.in-None.ensures) says)
    c.in_ok-start.ensures.answer c.attempt-answer.ensures.answer

pub returns-in-Some-clause-answer : goal.returns-in-Some-clause-answer
returns-in-Some-clause-answer g c =
    let old = c.args.self.now in
    let start = c.in_ok-start.start in
    let place = c.in-Some.place in
    let prev = c.args.prev in
    let same = c.in_ok-start.ensures.same in
    let stays = c.in_ok-start.ensures.stays in
    let same' = c.attempt-answer.ensures.same in
    let stays' = c.attempt-answer.ensures.stays in
    let begun = where_chain (g.L.LogBytes.told c.args.log.now) (g.L.LogBytes.told c.place_at.new.log) (g.L.LogBytes.owner_of c.args.log.now) (g.L.LogBytes.owner_of c.place_at.new.log)
    old c.place_at.new.self c.attempt-answer.new.self c.attempt-answer.new.self
    (λ told. place_at told None c.args.at ≡ Ok start)
    (λ told. SaysAttempt c.attempt-answer.result c.attempt-answer.new.self prev (attempt told start prev))
    (λ told. (place_at told None c.args.at ≡ Ok start) × (attempt told start prev ≡ Err (GivesUp place)))
    stays.told_stays stays.owner_stays (ap (λ (s : Gathering). s.system) same) (ap (λ (s : Gathering). s.segsize) same) refl
    (λ byte here says. (here, steps.gives_up (told_to old byte (g.L.LogBytes.owner_of c.args.log.now)) c.args.at prev start place c.attempt-answer.result c.attempt-answer.new.self (sym c.in-Some.ensures) says))
    c.in_ok-start.ensures.answer c.attempt-answer.ensures.answer in
    where_chain (g.L.LogBytes.told c.args.log.now) (g.L.LogBytes.told c.attempt-answer.new.log) (g.L.LogBytes.owner_of c.args.log.now) (g.L.LogBytes.owner_of c.attempt-answer.new.log)
    old c.attempt-answer.new.self c.replaced.new.self c.replaced.new.self
    (λ told. (place_at told None c.args.at ≡ Ok start) × (attempt told start prev ≡ Err (GivesUp place)))
    (λ told. SaysStep c.replaced.result c.replaced.new.self prev (in_place_of start (attempt told place prev)))
    (λ told. SaysStep c.replaced.result c.replaced.new.self prev (step told c.args.at prev))
    (stays'.told_stays ∙ stays.told_stays) (stays'.owner_stays ∙ stays.owner_stays)
    (ap (λ (s : Gathering). s.system) same' ∙ ap (λ (s : Gathering). s.system) same) (ap (λ (s : Gathering). s.segsize) same' ∙ ap (λ (s : Gathering). s.segsize) same) refl
    (λ byte both says. steps.step_replaced (told_to old byte (g.L.LogBytes.owner_of c.args.log.now)) c.args.at prev start place c.replaced.result c.replaced.new.self both.0 both.1 says)
    begun c.replaced.ensures.answer

pub returns-in-None-clause-same_log : goal.returns-in-None-clause-same_log
returns-in-None-clause-same_log g c =
    g.met.L.LogBytes.same_later c.args.log.now c.place_at.new.log c.attempt-answer.new.log c.in_ok-start.ensures.same_log c.attempt-answer.ensures.same_log

pub returns-in-Some-clause-same_log : goal.returns-in-Some-clause-same_log
returns-in-Some-clause-same_log g c =
    g.met.L.LogBytes.same_later c.args.log.now c.place_at.new.log c.replaced.new.log c.in_ok-start.ensures.same_log (g.met.L.LogBytes.same_later c.place_at.new.log c.attempt-answer.new.log c.replaced.new.log c.attempt-answer.ensures.same_log c.replaced.ensures.same_log)
