-- Where one rule of steps stands for another, what is answered by the one is answered by the other.
use Rattle.std.proofs.Common.{ℕ, zero, suc, List, [], ◌∷◌, refl, sym, subst}
use Rattle.session_text.specs.Requests as request
use Rattle.session_text.specs.Requests.{Request}
use Rattle.session_model.specs.Events.{Event, AsksStatus, ReplayOne, Open, Next, Close, Applied}
use Rattle.session_model.specs.Answers.{Answer, Answers, AnswersStep, Applies, ReplaysUpTo, Steps, Talks}
use Rattle.session_model.specs.Laws.{SessionsFollow, Simulates}

module _ {S T : Type 0} (StandFor : S → T → Type 0) (step : Steps S) (other : Steps T) (simulates : Simulates StandFor step other) where
  pub applies : (n : ℕ) (s now : S) (t : T) → StandFor s t → Applies step n s now → (later : T) × Applies other n t later × StandFor now later
  unfolding Applies
  applies zero s now t stand done = (t, refl, subst (λ x. StandFor x t) (sym done) stand)
  applies (suc n) s now t stand done =
      let before = applies n s done.0 t stand done.1 in
      let last = simulates done.0 before.0 before.2 ReplayOne (Applied done.2.0) now done.2.1 in
      (last.0, (before.0, before.1, (done.2.0, last.1)), last.2)

  replays : (count : ℕ) (s now : S) (answer : Answer) (t : T) → StandFor s t → ReplaysUpTo step count s answer now
      → (later : T) × ReplaysUpTo other count t answer later × StandFor now later
  replays count s now answer t stand done =
      let before = applies done.before s done.mid t stand done.applies in
      let last = simulates done.mid before.0 before.2 ReplayOne done.last now done.replays in (
        last.0,
        record {
          before = done.before;
          mid = before.0;
          last = done.last;
          applies = before.1;
          replays = last.1;
          stops = done.stops;
          says = done.says;
        },
        last.2,
      )

  one_step : (event : Event) (s now : S) (answer : Answer) (t : T) → StandFor s t → AnswersStep step event s answer now
      → (later : T) × AnswersStep other event t answer later × StandFor now later
  one_step event s now answer t stand done =
      let last = simulates s t stand event done.0 now done.1 in
      (last.0, (done.0, last.1, done.2), last.2)

  answers : (asked : Request) (s now : S) (answer : Answer) (t : T) → StandFor s t → Answers step asked s answer now
      → (later : T) × Answers other asked t answer later × StandFor now later
  answers request.AsksStatus s now answer t stand done = one_step AsksStatus s now answer t stand done
  answers (request.Replays count) s now answer t stand done = replays count s now answer t stand done
  answers (request.Opens table) s now answer t stand done = one_step (Open table) s now answer t stand done
  answers (request.Reads id) s now answer t stand done = one_step (Next id) s now answer t stand done
  answers (request.Closes id) s now answer t stand done = one_step (Close id) s now answer t stand done
  answers request.Unreadable s now answer t stand done = (t, (done.0, refl), subst (λ x. StandFor x t) (sym done.1) stand)

  talks : (requests : List Request) (given : List Answer) (s now : S) (t : T) → StandFor s t → Talks step requests s given now
      → (later : T) × Talks other requests t given later × StandFor now later
  unfolding Talks
  talks [] [] s now t stand done = (t, refl, subst (λ x. StandFor x t) (sym done) stand)
  talks [] (answer ∷ given) s now t stand done = absurd done
  talks (asked ∷ requests) [] s now t stand done = absurd done
  talks (asked ∷ requests) (answer ∷ given) s now t stand done =
      let first = answers asked s done.0 answer t stand done.1 in
      let others = talks requests given done.0 now first.0 first.2 done.2 in
      (others.0, (first.0, first.1, others.1), others.2)

  pub sessions_follow : SessionsFollow StandFor step other
  sessions_follow s t stand = record {
    whole = λ source text status is. let there = talks _ is.answers s is.now t stand is.talks in record {
      now = there.0;
      answers = is.answers;
      talks = there.1;
      says = is.says;
      ends = is.ends;
    };
    front = λ source text is. let there = talks _ is.answers s is.now t stand is.talks in record {
      now = there.0;
      finished = is.finished;
      others = is.others;
      asks = is.asks;
      answers = is.answers;
      talks = there.1;
      says = is.says;
    };
    taken = λ source text is. let there = talks _ is.answers s is.now t stand is.talks in record {
      now = there.0;
      answers = is.answers;
      talks = there.1;
      says = is.says;
    };
  }
