-- What the answers of a session say of a scan: where it is open where they begin, and where it is over.
use Rattle.std.proofs.Common.{◌≡◌, ℕ, ◌≤◌, List, [], ◌∷◌, ◌++◌, Option, None, arith, refl, sym, ap, ◌∙◌, subst}
use Rattle.typed_records.specs.declared.types.Rec.{Rec}
use Rattle.recovery_conflict.specs.declared.locks.Cause.{Cause}
use Rattle.session_text.specs.Requests as request
use Rattle.session_text.specs.Requests.{Request}
use Rattle.session_model.specs.Events.{Event, AsksStatus, Open, Next, Close, Reply}
use Rattle.session_model.specs.Answers.{Answer, Answers, AnswersStep, Talks}
use Rattle.legal_session.specs.AbstractStandby.{AbstractStandby, Step, World, scan_in}
use Rattle.legal_session.specs.GivenRows.{said_in, said_of}
use Rattle.legal_session.proofs.GivenChanges.{change_of}
use Rattle.legal_session.proofs.GivenKept.{IsSound, grows_answers, grows_talks, kept_record, kept_replays, sound_answers}
use Rattle.legal_session.proofs.GivenScans.{first_of, scan_in_is}
use Rattle.legal_session.proofs.GivenStages.{FromOpen, StaysOpen, IsOpen, IsOver, from_open, from_over, nothing_said, open_met, over_met}

-- what the first answer says, and what the others do
pub said_first : (id : ℕ) (answer : Answer) (answers : List Answer) → said_in id (answer ∷ answers) ≡ said_of id answer ++ said_in id answers
unfolding said_in
said_first id answer answers = refl

pub none_said : (id : ℕ) → said_in id [] ≡ []
unfolding said_in
none_said id = refl

pub none_first :
    (id : ℕ) (answer : Answer) (answers : List Answer) → said_of id answer ≡ [] → said_in id (answer ∷ answers) ≡ said_in id answers
none_first id answer answers none =
    said_first id answer answers ∙ ap (λ (said : List Reply). said ++ said_in id answers) none

-- the answers before a scan was opened say nothing of its id
module _ (w : World) (start : ℕ) where
  none_ahead : (id : ℕ) (s : AbstractStandby) → IsSound w start s → s.next_id ≤ id → scan_in id s.scans ≡ None
  none_ahead id s is past = scan_in_is id s.scans ∙ ap first_of (is.free id past)

  ahead_step :
      (id : ℕ) (event : Event) (s now : AbstractStandby) (answer : Answer) → IsSound w start s → s.next_id ≤ id
      → AnswersStep (Step w) event s answer now → said_of id answer ≡ []
  ahead_step id event s now answer is past (reply, does, says) =
      ap (said_of id) says ∙ nothing_said w id s reply now (none_ahead id s is past) (change_of w s event reply now does)

  ahead_answers :
      (id : ℕ) (asked : Request) (s now : AbstractStandby) (answer : Answer) → IsSound w start s → s.next_id ≤ id
      → Answers (Step w) asked s answer now → said_of id answer ≡ []
  ahead_answers id request.AsksStatus s now answer is past step = ahead_step id AsksStatus s now answer is past step
  ahead_answers id (request.Replays count) s now answer is past all = ap (said_of id) all.says
  ahead_answers id (request.Opens name) s now answer is past step = ahead_step id (Open name) s now answer is past step
  ahead_answers id (request.Reads other) s now answer is past step = ahead_step id (Next other) s now answer is past step
  ahead_answers id (request.Closes other) s now answer is past step = ahead_step id (Close other) s now answer is past step
  ahead_answers id request.Unreadable s now answer is past (says, same) = ap (said_of id) says

  least_of : (a b c : ℕ) → a ≤ b → b ≤ c → a ≤ c
  least_of a b c less more = omega (arith, less, more)

  pub ahead_talks :
      (id : ℕ) (requests : List Request) (answers : List Answer) (s now : AbstractStandby) → IsSound w start s
      → Talks (Step w) requests s answers now → now.next_id ≤ id → said_in id answers ≡ []
  unfolding Talks
  ahead_talks id [] [] s now is same past = none_said id
  ahead_talks id [] (answer ∷ answers) s now is talks past = absurd talks
  ahead_talks id (asked ∷ requests) [] s now is talks past = absurd talks
  ahead_talks id (asked ∷ requests) (answer ∷ answers) s now is (mid, answered, rest) past =
      let first = grows_answers w asked s mid answer answered in
      let others = grows_talks w requests answers mid now rest in
      let later = least_of mid.next_id now.next_id id others past in
      none_first id answer answers (ahead_answers id asked s mid answer is (least_of s.next_id mid.next_id id first later) answered)
      ∙ ahead_talks id requests answers mid now (sound_answers w start asked s mid answer answered is) rest past

module _ (w : World) (id table : ℕ) (opened : List Rec) (xmin : ℕ) where
  -- where a scan is over, the answers say nothing of it
  over_step :
      (was : Option Cause) (event : Event) (s now : AbstractStandby) (answer : Answer) → IsOver w id table opened xmin was s
      → AnswersStep (Step w) event s answer now → (said_of id answer ≡ []) × IsOver w id table opened xmin was now
  over_step was event s now answer is (reply, does, says) =
      let (quiet, over) = from_over w id table opened xmin was s reply now is (change_of w s event reply now does) in
      (ap (said_of id) says ∙ quiet, over)

  over_answers :
      (was : Option Cause) (asked : Request) (s now : AbstractStandby) (answer : Answer) → IsOver w id table opened xmin was s
      → Answers (Step w) asked s answer now → (said_of id answer ≡ []) × IsOver w id table opened xmin was now
  over_answers was request.AsksStatus s now answer is step = over_step was AsksStatus s now answer is step
  over_answers was (request.Replays count) s now answer is all = (
    ap (said_of id) all.says,
    kept_replays (Step w) (λ (t : AbstractStandby). IsOver w id table opened xmin was t)
        (λ t reply next step holds.
        kept_record w (λ (u : AbstractStandby). IsOver w id table opened xmin was u)
        (λ rec u h. over_met w id table opened xmin was rec u h) t reply next step holds)
        count s now answer all is,
  )
  over_answers was (request.Opens name) s now answer is step = over_step was (Open name) s now answer is step
  over_answers was (request.Reads other) s now answer is step = over_step was (Next other) s now answer is step
  over_answers was (request.Closes other) s now answer is step = over_step was (Close other) s now answer is step
  over_answers was request.Unreadable s now answer is (says, same) =
      (ap (said_of id) says, subst (λ (t : AbstractStandby). IsOver w id table opened xmin was t) (sym same) is)

  pub over_talks :
      (was : Option Cause) (requests : List Request) (answers : List Answer) (s now : AbstractStandby)
      → IsOver w id table opened xmin was s → Talks (Step w) requests s answers now
      → (said_in id answers ≡ []) × IsOver w id table opened xmin was now
  unfolding Talks
  over_talks was [] [] s now is same =
      (none_said id, subst (λ (t : AbstractStandby). IsOver w id table opened xmin was t) (sym same) is)
  over_talks was [] (answer ∷ answers) s now is talks = absurd talks
  over_talks was (asked ∷ requests) [] s now is talks = absurd talks
  over_talks was (asked ∷ requests) (answer ∷ answers) s now is (mid, answered, rest) =
      let (first, over) = over_answers was asked s mid answer is answered in
      let (others, last) = over_talks was requests answers mid now over rest in
      (none_first id answer answers first ∙ others, last)

  -- what an answer says of it where it is open
  open_step :
      (given : ℕ) (event : Event) (s now : AbstractStandby) (answer : Answer) → IsOpen w id table opened xmin given s
      → AnswersStep (Step w) event s answer now → FromOpen w id table opened xmin given (said_of id answer) now
  open_step given event s now answer is (reply, does, says) =
      subst (λ (said : List Reply). FromOpen w id table opened xmin given said now) (sym (ap (said_of id) says))
      (from_open w id table opened xmin given s reply now is (change_of w s event reply now does))

  pub open_answers :
      (given : ℕ) (asked : Request) (s now : AbstractStandby) (answer : Answer) → IsOpen w id table opened xmin given s
      → Answers (Step w) asked s answer now → FromOpen w id table opened xmin given (said_of id answer) now
  open_answers given request.AsksStatus s now answer is step = open_step given AsksStatus s now answer is step
  open_answers given (request.Replays count) s now answer is all =
      StaysOpen (ap (said_of id) all.says)
      (kept_replays (Step w) (λ (t : AbstractStandby). IsOpen w id table opened xmin given t)
      (λ t reply next step holds.
      kept_record w (λ (u : AbstractStandby). IsOpen w id table opened xmin given u)
      (λ rec u h. open_met w id table opened xmin given rec u h) t reply next step holds)
      count s now answer all is)
  open_answers given (request.Opens name) s now answer is step = open_step given (Open name) s now answer is step
  open_answers given (request.Reads other) s now answer is step = open_step given (Next other) s now answer is step
  open_answers given (request.Closes other) s now answer is step = open_step given (Close other) s now answer is step
  open_answers given request.Unreadable s now answer is (says, same) =
      StaysOpen (ap (said_of id) says) (subst (λ (t : AbstractStandby). IsOpen w id table opened xmin given t) (sym same) is)
