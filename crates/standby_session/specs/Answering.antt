-- What answering a request does to a node and to a text.
use Rattle.std.specs.Prelude.{◌≡◌, ℕ, ◌≤◌, Bool, List, ◌++◌, Option, IfSome, Result, Ok, Err}
use Rattle.wal_reader.specs.Kept.{AreTold}
use Rattle.session_text.specs.Requests as request
use Rattle.session_text.specs.Requests.{Request}
use Rattle.standby_core.specs.declared.types.NodeFault.{NodeFault}
use Rattle.standby_core.specs.declared.types.Replayed.{Replayed}
use Rattle.standby_core.specs.Standby.{Standby}
use Rattle.session_model.specs.Answers.{Answer, Answers, ReplaysUpTo, Replayed as ReplayedSome, is_troubled}
use Rattle.session_model.specs.NodeSteps.{NodeStep, bare, replay_reply}
use Rattle.session_model.specs.Texts.{answer_text}

-- where the log's bytes are told, and what a node keeps of them is among them, this holds, and what it keeps afterwards is
-- among them too
abbrev pub WhereLogTold : Option (ℕ → Option ℕ) → Standby → Standby → ((ℕ → Option ℕ) → Type 0) → Type 0
WhereLogTold bytes old new P = IfSome bytes (λ byte. AreTold byte old.kept → AreTold byte new.kept × P byte)

-- a replay is of one record at least
abbrev pub AsksSome : Request → Type 0
AsksSome request.AsksStatus = Unit {0}
AsksSome (request.Replays count) = 1 ≤ count
AsksSome (request.Opens table) = Unit {0}
AsksSome (request.Reads id) = Unit {0}
AsksSome (request.Closes id) = Unit {0}
AsksSome request.Unreadable = Unit {0}

-- the answer to a request: its text stands behind what stood there, and whether a record was refused or a scan met damage
pub record AnswersWith (byte : ℕ → Option ℕ) (asked : Request) (old new : Standby) (before now : List ℕ) (troubled : Bool) : Type 0 where
  pub answer : Answer
  pub answers : Answers (NodeStep byte) asked (bare old) answer (bare new)
  pub says : now ≡ before ++ answer_text answer
  pub trouble : troubled ≡ is_troubled answer

-- the log is not read for it
pub record AnswersAnyhow (asked : Request) (old new : Standby) (before now : List ℕ) (troubled : Bool) : Type 0 where
  pub kept : new.kept ≡ old.kept
  pub anyhow : (byte : ℕ → Option ℕ) → AnswersWith byte asked old new before now troubled

-- where no answer is given nothing is said of the node
abbrev pub AnswersTold : Option (ℕ → Option ℕ) → Request → Standby → Standby → List ℕ → List ℕ → Result Bool NodeFault → Type 0
AnswersTold bytes asked old new before now (Ok troubled) =
    WhereLogTold bytes old new (λ byte. AnswersWith byte asked old new before now troubled)
AnswersTold bytes asked old new before now (Err fault) = Unit {0}

-- up to so many replays, of which so many applied a record, and what came of the last one
abbrev pub ReplaysTold : Option (ℕ → Option ℕ) → ℕ → Standby → Standby → Result (ℕ × Replayed) NodeFault → Type 0
ReplaysTold bytes count old new (Ok (applied, last)) =
    WhereLogTold bytes old new (λ byte. ReplaysUpTo (NodeStep byte) count (bare old) (ReplayedSome applied (replay_reply last)) (bare new))
ReplaysTold bytes count old new (Err fault) = Unit {0}
