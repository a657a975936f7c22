-- Requests that are answered one after the other.
use Rattle.std.proofs.Common.{◌≡◌, ℕ, Bool, false, true, ◌||◌, List, [], ◌∷◌, ◌++◌, Option, Some, None, Result, Ok, Err, refl, ap, sym, ◌∙◌, subst, append_assoc, append-nil}
use Rattle.std.specs.List.{list_any}
use Rattle.std.proofs.lemmas.List.Concat.{flat_map-append}
use Rattle.std.proofs.lemmas.List.Folds.{list_any-append}
use Rattle.outside.specs.Sink.{Appends, AppendsPrefix}
use Rattle.session_text.specs.Requests.{Request}
use Rattle.standby_core.specs.Standby.{Standby}
use Rattle.session_model.specs.Answers.{Answer, Answers, Steps, Talks, is_troubled}
use Rattle.session_model.specs.NodeSteps.{NodeStep, bare}
use Rattle.session_model.specs.Sessions.{talk_text}
use Rattle.session_model.specs.Texts.{answer_text}
use Rattle.standby_session.specs.Answered.{Answered, AnsweredFirst, AnsweredPrefix, AnsweredTold, AnswersAll, Broken, BrokenTold}
use Rattle.standby_session.specs.declared.fault.SessionFault.{SessionFault}
use Rattle.standby_session.specs.declared.fault.SessionFault.TheVariants as fault
use Rattle.standby_session.proofs.Appending.{appends_both, appends_prefix, nothing_appended}
use Rattle.session_model.proofs.Talking.{talks_both}
use Rattle.std.proofs.Math.Bool.{or-false}

or_assoc : (x y z : Bool) → (x || y || z) ≡ (x || (y || z))
or_assoc true y z = refl
or_assoc false y z = refl

module _ {S : Type 0} (step : Steps S) where
  talks_none : (s : S) → Talks step [] s [] s
  unfolding Talks
  talks_none s = refl

  -- none are asked
  pub answered_none :
      (s : S) (before now : Option (List ℕ)) (was is : Bool) → Appends before now [] → is ≡ was
      → Answered step s [] before now was is s
  answered_none s before now was is p e =
      record { answers = []; talks = talks_none s; writes = p; trouble = e ∙ sym (or-false was) }

  texts : (a b : List Answer) → talk_text a ++ talk_text b ≡ talk_text (a ++ b)
  texts a b = sym (flat_map-append answer_text a b)

  pub answered_on :
      (first second : List Request) (s mid now : S) (before between after : Option (List ℕ)) (was so is : Bool)
      → Answered step s first before between was so mid → Answered step mid second between after so is now
      → Answered step s (first ++ second) before after was is now
  answered_on first second s mid now before between after was so is p q = record {
    answers = p.answers ++ q.answers;
    talks = talks_both step first second p.answers q.answers s mid now p.talks q.talks;
    writes = subst (λ (t : List ℕ). Appends before after t) (texts p.answers q.answers)
        (appends_both before between after (talk_text p.answers) (talk_text q.answers) p.writes q.writes);
    trouble = q.trouble ∙ ap (λ (b : Bool). b || list_any is_troubled q.answers) p.trouble
        ∙ or_assoc was (list_any is_troubled p.answers) (list_any is_troubled q.answers)
        ∙ ap (λ (b : Bool). was || b) (sym (list_any-append is_troubled p.answers q.answers));
  }

  first_on :
      (first second : List Request) (s mid : S) (before between after : Option (List ℕ)) (was so : Bool)
      → Answered step s first before between was so mid → AnsweredFirst step mid second between after
      → AnsweredFirst step s (first ++ second) before after
  first_on first second s mid before between after was so p q = record {
    finished = first ++ q.finished;
    others = q.others;
    asks = ap (λ (rs : List Request). first ++ rs) q.asks ∙ sym (append_assoc first q.finished q.others);
    answers = p.answers ++ q.answers;
    node = q.node;
    talks = talks_both step first q.finished p.answers q.answers s mid q.node p.talks q.talks;
    writes = subst (λ (t : List ℕ). Appends before after t) (texts p.answers q.answers)
        (appends_both before between after (talk_text p.answers) (talk_text q.answers) p.writes q.writes);
  }

  prefix_on :
      (first second : List Request) (s mid : S) (before between after : Option (List ℕ)) (was so : Bool)
      → Answered step s first before between was so mid → AnsweredPrefix step mid second between after
      → AnsweredPrefix step s (first ++ second) before after
  prefix_on first second s mid before between after was so p q = record {
    finished = first ++ q.finished;
    others = q.others;
    asks = ap (λ (rs : List Request). first ++ rs) q.asks ∙ sym (append_assoc first q.finished q.others);
    answers = p.answers ++ q.answers;
    node = q.node;
    talks = talks_both step first q.finished p.answers q.answers s mid q.node p.talks q.talks;
    writes = subst (λ (t : List ℕ). AppendsPrefix before after t) (texts p.answers q.answers)
        (appends_prefix before between after (talk_text p.answers) (talk_text q.answers) p.writes q.writes);
  }

  pub broken_on :
      (first second : List Request) (s mid : S) (before between after : Option (List ℕ)) (was so : Bool) (f : SessionFault)
      → Answered step s first before between was so mid → Broken step mid second between after f
      → Broken step s (first ++ second) before after f
  broken_on first second s mid before between after was so fault.Archive p q = first_on first second s mid before between after was so p q
  broken_on first second s mid before between after was so fault.Memory p q = first_on first second s mid before between after was so p q
  broken_on first second s mid before between after was so fault.Sink p q = prefix_on first second s mid before between after was so p q
  broken_on first second s mid before between after was so fault.Source p q = absurd q

  -- so it is with more that was to come
  first_further :
      (requests more : List Request) (s : S) (before now : Option (List ℕ)) → AnsweredFirst step s requests before now
      → AnsweredFirst step s (requests ++ more) before now
  first_further requests more s before now p = record {
    finished = p.finished;
    others = p.others ++ more;
    asks = ap (λ (rs : List Request). rs ++ more) p.asks ∙ append_assoc p.finished p.others more;
    answers = p.answers;
    node = p.node;
    talks = p.talks;
    writes = p.writes;
  }

  prefix_further :
      (requests more : List Request) (s : S) (before now : Option (List ℕ)) → AnsweredPrefix step s requests before now
      → AnsweredPrefix step s (requests ++ more) before now
  prefix_further requests more s before now p = record {
    finished = p.finished;
    others = p.others ++ more;
    asks = ap (λ (rs : List Request). rs ++ more) p.asks ∙ append_assoc p.finished p.others more;
    answers = p.answers;
    node = p.node;
    talks = p.talks;
    writes = p.writes;
  }

  pub broken_further :
      (requests more : List Request) (s : S) (before now : Option (List ℕ)) (f : SessionFault) → Broken step s requests before now f
      → Broken step s (requests ++ more) before now f
  broken_further requests more s before now fault.Archive p = first_further requests more s before now p
  broken_further requests more s before now fault.Memory p = first_further requests more s before now p
  broken_further requests more s before now fault.Sink p = prefix_further requests more s before now p
  broken_further requests more s before now fault.Source p = absurd p

  -- nothing is answered
  pub answered_nothing : (requests : List Request) (s : S) (before now : Option (List ℕ)) → Appends before now [] → AnsweredFirst step s requests before now
  answered_nothing requests s before now p = record {
    finished = [];
    others = requests;
    asks = refl;
    answers = [];
    node = s;
    talks = talks_none s;
    writes = p;
  }

  -- one answer
  pub answered_one :
      (asked : Request) (answer : Answer) (s now : S) (before after : Option (List ℕ)) (was is : Bool) → Answers step asked s answer now
      → Appends before after (answer_text answer) → is ≡ (was || is_troubled answer)
      → Answered step s (asked ∷ []) before after was is now
  unfolding Talks
  answered_one asked answer s now before after was is says p e = record {
    answers = answer ∷ [];
    talks = (now, says, refl);
    writes = subst (λ (t : List ℕ). Appends before after t) (sym (append-nil (answer_text answer))) p;
    trouble = e ∙ ap (λ (b : Bool). was || b) (sym (or-false (is_troubled answer)));
  }

  pub prefix_of_one :
      (asked : Request) (answer : Answer) (s now : S) (before after : Option (List ℕ)) → Answers step asked s answer now
      → AppendsPrefix before after (answer_text answer) → AnsweredPrefix step s (asked ∷ []) before after
  unfolding Talks
  prefix_of_one asked answer s now before after says p = record {
    finished = asked ∷ [];
    others = [];
    asks = refl;
    answers = answer ∷ [];
    node = now;
    talks = (now, says, refl);
    writes = subst (λ (t : List ℕ). AppendsPrefix before after t) (sym (append-nil (answer_text answer))) p;
  }

-- the same over a node, where the log's bytes are told or not
pub told_none :
    (bytes : Option (ℕ → Option ℕ)) (node : Standby) (now : Option (List ℕ)) (is : Bool) → AnsweredTold bytes [] node node now now is is
told_none None node now is = tt
told_none (Some byte) node now is =
    λ kept. (kept, answered_none (NodeStep byte) (bare node) now now is is (nothing_appended now) refl)

pub told_on :
    {T : Type 0} (bytes later : Option (ℕ → Option ℕ)) (first second : List Request) (old mid new : Standby)
    (before between now : Option (List ℕ)) (was so is : Bool) (result : Result T SessionFault) → later ≡ bytes
    → AnsweredTold bytes first old mid before between was so → AnswersAll later second mid new between now so is result
    → AnswersAll bytes (first ++ second) old new before now was is result
told_on {T} bytes later first second old mid new before between now was so is result e p q =
    by bytes result p (subst (λ (b : Option (ℕ → Option ℕ)). AnswersAll b second mid new between now so is result) e q)
  where
    by : (b : Option (ℕ → Option ℕ)) (r : Result T SessionFault) → AnsweredTold b first old mid before between was so
        → AnswersAll b second mid new between now so is r → AnswersAll b (first ++ second) old new before now was is r
    by None (Ok done) p q = tt
    by None (Err f) p q = tt
    by (Some byte) (Ok done) p q = λ kept.
        let one = p kept in
        let two = q one.0 in
        (two.0, answered_on (NodeStep byte) first second (bare old) (bare mid) (bare new) before between now was so is one.1 two.1)
    by (Some byte) (Err f) p q = λ kept.
        let one = p kept in
        broken_on (NodeStep byte) first second (bare old) (bare mid) before between now was so f one.1 (q one.0)

pub told_further :
    (bytes : Option (ℕ → Option ℕ)) (requests more : List Request) (old : Standby) (before now : Option (List ℕ)) (f : SessionFault)
    → BrokenTold bytes requests old before now f → BrokenTold bytes (requests ++ more) old before now f
told_further None requests more old before now f p = tt
told_further (Some byte) requests more old before now f p = λ kept.
    broken_further (NodeStep byte) requests more (bare old) before now f (p kept)

pub archive_first :
    (bytes : Option (ℕ → Option ℕ)) (requests : List Request) (old : Standby) (now : Option (List ℕ))
    → BrokenTold bytes requests old now now fault.Archive
archive_first None requests old now = tt
archive_first (Some byte) requests old now = λ kept. answered_nothing (NodeStep byte) requests (bare old) now now (nothing_appended now)

pub told_nothing :
    (bytes : Option (ℕ → Option ℕ)) (requests : List Request) (old : Standby) (before now : Option (List ℕ)) → Appends before now []
    → BrokenTold bytes requests old before now fault.Memory
told_nothing None requests old before now p = tt
told_nothing (Some byte) requests old before now p = λ kept. answered_nothing (NodeStep byte) requests (bare old) before now p

pub memory_first :
    (bytes : Option (ℕ → Option ℕ)) (requests : List Request) (old : Standby) (now : Option (List ℕ))
    → BrokenTold bytes requests old now now fault.Memory
memory_first bytes requests old now = told_nothing bytes requests old now now (nothing_appended now)
