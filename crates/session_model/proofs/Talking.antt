-- Requests that are answered one after the other.
use Rattle.std.proofs.Common.{List, [], ◌∷◌, ◌++◌, refl, subst}
use Rattle.session_text.specs.Requests.{Request}
use Rattle.session_model.specs.Answers.{Answer, Steps, Talks}
use Rattle.session_model.specs.Laws.{TalksOn}

module _ {S : Type 0} (step : Steps S) where
  -- and then further ones
  pub talks_both :
      (requests further : List Request) (answers more : List Answer) (s mid now : S) → Talks step requests s answers mid
      → Talks step further mid more now → Talks step (requests ++ further) s (answers ++ more) now
  unfolding Talks
  talks_both [] further [] more s mid now before after = subst (λ x. Talks step further x more now) before after
  talks_both [] further (answer ∷ answers) more s mid now before after = absurd before
  talks_both (asked ∷ requests) further [] more s mid now before after = absurd before
  talks_both (asked ∷ requests) further (answer ∷ answers) more s mid now before after =
      (before.0, before.1, talks_both requests further answers more before.0 mid now before.2 after)

  pub talks_on : TalksOn step
  unfolding Talks
  talks_on requests asked answers answer s mid now before answered =
      talks_both requests (asked ∷ []) answers (answer ∷ []) s mid now before (now, answered, refl)
