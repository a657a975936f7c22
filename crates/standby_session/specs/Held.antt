-- What a session that is held leaves: what was written, and why it ended.
use Rattle.std.specs.Prelude.{◌≡◌, ℕ, Bool, false, List, [], ◌++◌, Option, Some, IfSome, Result, Ok, Err}
use Rattle.outside.specs.Sink.{Appends, AppendsPrefix}
use Rattle.wal_reader.specs.Kept.{AreTold}
use Rattle.session_text.specs.Requests.{requests_of}
use Rattle.session_text.specs.Taking.{Taking, Kept, lines_given, taken_behind}
use Rattle.standby_core.specs.Standby.{Standby}
use Rattle.session_model.specs.Answers.{Steps}
use Rattle.session_model.specs.NodeSteps.{NodeStep, bare}
use Rattle.session_model.specs.Sessions.{IsSession, IsFrontOfSession, IsTakenSession}
use Rattle.standby_session.specs.Answered.{AnsweredTold}
use Rattle.standby_session.specs.declared.fault.SessionFault.{SessionFault}
use Rattle.standby_session.specs.declared.fault.SessionFault.TheVariants as fault

-- the whole text of a session
pub record HeldWhole {S : Type 0} (step : Steps S) (s : S) (source : List ℕ) (status : ℕ) (before now : Option (List ℕ)) : Type 0 where
  pub text : List ℕ
  pub is_session : IsSession step s source text status
  pub writes : Appends before now text

-- the text of its first answers
pub record HeldFront {S : Type 0} (step : Steps S) (s : S) (source : List ℕ) (before now : Option (List ℕ)) : Type 0 where
  pub text : List ℕ
  pub is_front : IsFrontOfSession step s source text
  pub writes : Appends before now text

-- a prefix of such a text, where the sink failed
pub record HeldPrefix {S : Type 0} (step : Steps S) (s : S) (source : List ℕ) (before now : Option (List ℕ)) : Type 0 where
  pub text : List ℕ
  pub is_front : IsFrontOfSession step s source text
  pub writes : AppendsPrefix before now text

-- the text of the answers to what was taken, where the source failed
pub record HeldTaken {S : Type 0} (step : Steps S) (s : S) (source : List ℕ) (before now : Option (List ℕ)) : Type 0 where
  pub taken : List ℕ
  pub rest : List ℕ
  pub parts : source ≡ taken ++ rest
  pub text : List ℕ
  pub is_taken : IsTakenSession step s taken text
  pub writes : Appends before now text

-- by what ended the session, where the source was going to give these bytes
abbrev pub Leaves : {S : Type 0} → Steps S → S → List ℕ → Option (List ℕ) → Option (List ℕ) → Result ℕ SessionFault → Type 0
Leaves step s source before now (Ok status) = HeldWhole step s source status before now
Leaves step s source before now (Err fault.Archive) = HeldFront step s source before now
Leaves step s source before now (Err fault.Memory) = HeldFront step s source before now
Leaves step s source before now (Err fault.Sink) = HeldPrefix step s source before now
Leaves step s source before now (Err fault.Source) = HeldTaken step s source before now

-- so over a node, where the log's bytes and the source are told
abbrev pub LeavesTold : Option (ℕ → Option ℕ) → Option (List ℕ) → Standby → Option (List ℕ) → Option (List ℕ) → Result ℕ SessionFault → Type 0
LeavesTold bytes source node before now result =
    IfSome bytes (λ byte. IfSome source (λ rest. AreTold byte node.kept → Leaves (NodeStep byte) (bare node) rest before now result))

-- a session that goes on: the bytes that were taken of the source, which may be told, and their lines' requests are answered
pub record IsHeld (bytes : Option (ℕ → Option ℕ)) (begin node : Standby) (source rest : Option (List ℕ)) (before now : Option (List ℕ)) (lines : Taking) (troubled : Bool) : Type 0 where
  pub taken : List ℕ
  pub is_taken : lines ≡ taken_behind (Kept []) taken
  pub parts : IfSome source (λ all. (later : List ℕ) × (rest ≡ Some later) × (all ≡ taken ++ later))
  pub answered : AnsweredTold bytes (requests_of (lines_given (Kept []) taken)) begin node before now false troubled
