-- Sessions: a standby answers the lines of a source, for any rule of its single steps. Each answer is written once it is
-- whole.
use Rattle.std.specs.Prelude.{◌≡◌, ℕ, List, ◌++◌}
use Rattle.std.specs.List.{flat_map}
use Rattle.session_text.specs.Requests.{Request, requests_read, requests_taken}
use Rattle.session_model.specs.Answers.{Answer, Steps, Talks, session_status}
use Rattle.session_model.specs.Texts.{answer_text}

-- the text of answers
abbrev pub talk_text : List Answer → List ℕ
talk_text answers = flat_map answer_text answers

-- the lines of a source that was read to its end are answered with this text, and the status is this
pub record IsSession {S : Type 0} (step : Steps S) (s : S) (source text : List ℕ) (status : ℕ) : Type 0 where
  pub now : S
  pub answers : List Answer
  pub talks : Talks step (requests_read source) s answers now
  pub says : text ≡ talk_text answers
  pub ends : status ≡ session_status answers

-- the first of its lines are answered with this text
pub record IsFrontOfSession {S : Type 0} (step : Steps S) (s : S) (source text : List ℕ) : Type 0 where
  pub now : S
  pub finished : List Request
  pub others : List Request
  pub asks : requests_read source ≡ finished ++ others
  pub answers : List Answer
  pub talks : Talks step finished s answers now
  pub says : text ≡ talk_text answers

-- the lines of a source of which these bytes were taken are answered with this text
pub record IsTakenSession {S : Type 0} (step : Steps S) (s : S) (taken text : List ℕ) : Type 0 where
  pub now : S
  pub answers : List Answer
  pub talks : Talks step (requests_taken taken) s answers now
  pub says : text ≡ talk_text answers
