-- Requests that are answered one after the other, each answer written once it is whole.
use Rattle.std.specs.Prelude.{◌≡◌, ℕ, Bool, ◌||◌, List, ◌++◌, Option, IfSome, Result, Ok, Err}
use Rattle.std.specs.List.{list_any}
use Rattle.outside.specs.Sink.{Appends, AppendsPrefix}
use Rattle.wal_reader.specs.Kept.{AreTold}
use Rattle.session_text.specs.Requests.{Request}
use Rattle.standby_core.specs.Standby.{Standby}
use Rattle.session_model.specs.Answers.{Answer, Steps, Talks, is_troubled}
use Rattle.session_model.specs.NodeSteps.{NodeStep, bare}
use Rattle.session_model.specs.Sessions.{talk_text}
use Rattle.standby_session.specs.Answering.{WhereLogTold}
use Rattle.standby_session.specs.declared.fault.SessionFault.{SessionFault}
use Rattle.standby_session.specs.declared.fault.SessionFault.TheVariants as fault

-- all of them are: what was written, and whether a record was refused or a scan met damage before, and is so now
pub record Answered {S : Type 0} (step : Steps S) (s : S) (requests : List Request) (before now : Option (List ℕ)) (was is : Bool) (node : S) : Type 0 where
  pub answers : List Answer
  pub talks : Talks step requests s answers node
  pub writes : Appends before now (talk_text answers)
  pub trouble : is ≡ (was || list_any is_troubled answers)

-- the first of them are
pub record AnsweredFirst {S : Type 0} (step : Steps S) (s : S) (requests : List Request) (before now : Option (List ℕ)) : Type 0 where
  pub finished : List Request
  pub others : List Request
  pub asks : requests ≡ finished ++ others
  pub answers : List Answer
  pub node : S
  pub talks : Talks step finished s answers node
  pub writes : Appends before now (talk_text answers)

-- the first of them are, and a prefix of the answers was written
pub record AnsweredPrefix {S : Type 0} (step : Steps S) (s : S) (requests : List Request) (before now : Option (List ℕ)) : Type 0 where
  pub finished : List Request
  pub others : List Request
  pub asks : requests ≡ finished ++ others
  pub answers : List Answer
  pub node : S
  pub talks : Talks step finished s answers node
  pub writes : AppendsPrefix before now (talk_text answers)

-- by the fault that came among them. The source is not read there
abbrev pub Broken : {S : Type 0} → Steps S → S → List Request → Option (List ℕ) → Option (List ℕ) → SessionFault → Type 0
Broken step s requests before now fault.Archive = AnsweredFirst step s requests before now
Broken step s requests before now fault.Memory = AnsweredFirst step s requests before now
Broken step s requests before now fault.Sink = AnsweredPrefix step s requests before now
Broken step s requests before now fault.Source = ⊥

-- so over a node, where the log's bytes are told: all are answered
abbrev pub AnsweredTold : Option (ℕ → Option ℕ) → List Request → (old new : Standby) → (before now : Option (List ℕ)) → (was is : Bool) → Type 0
AnsweredTold bytes requests old new before now was is =
    WhereLogTold bytes old new (λ byte. Answered (NodeStep byte) (bare old) requests before now was is (bare new))

-- or a fault came among them
abbrev pub BrokenTold : Option (ℕ → Option ℕ) → List Request → (old : Standby) → (before now : Option (List ℕ)) → SessionFault → Type 0
BrokenTold bytes requests old before now fault =
    IfSome bytes (λ byte. AreTold byte old.kept → Broken (NodeStep byte) (bare old) requests before now fault)

abbrev pub AnswersAll : {T : Type 0} → Option (ℕ → Option ℕ) → List Request → (old new : Standby) → (before now : Option (List ℕ)) → (was is : Bool) → Result T SessionFault → Type 0
AnswersAll bytes requests old new before now was is (Ok done) = AnsweredTold bytes requests old new before now was is
AnswersAll bytes requests old new before now was is (Err fault) = BrokenTold bytes requests old before now fault
