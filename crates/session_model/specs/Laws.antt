-- What the definitions promise together.
use Rattle.std.specs.Prelude.{◌≡◌, ℕ, List, [], ◌∷◌, ◌++◌, Option}
use Rattle.session_text.specs.Requests.{Request}
use Rattle.session_model.specs.Events.{Event, Reply}
use Rattle.session_model.specs.Answers.{Answer, Answers, Steps, Talks}
use Rattle.session_model.specs.NodeSteps.{NodeStep}
use Rattle.session_model.specs.Sessions.{IsSession, IsFrontOfSession, IsTakenSession}
use Rattle.session_model.specs.Scans.{IsScan, IsFrontOfScan}

-- one rule of steps stands for another: where two standbys stand for each other, each step of the one is a step of the
-- other with the same reply, and they stand for each other afterwards
abbrev pub Simulates : {S T : Type 0} → (S → T → Type 0) → Steps S → Steps T → Type 0
Simulates {S} {T} StandFor step other =
    (s : S) (t : T) → StandFor s t → (event : Event) (reply : Reply) (now : S) → step event s reply now
    → (then_ : T) × other event t reply then_ × StandFor now then_

-- what a session by the one rule is, is one by the other
pub record Follows {S T : Type 0} (step : Steps S) (s : S) (other : Steps T) (t : T) : Type 0 where
  pub whole : (source text : List ℕ) (status : ℕ) → IsSession step s source text status → IsSession other t source text status
  pub front : (source text : List ℕ) → IsFrontOfSession step s source text → IsFrontOfSession other t source text
  pub taken : (source text : List ℕ) → IsTakenSession step s source text → IsTakenSession other t source text

-- it is so for all standbys that stand for each other
abbrev pub SessionsFollow : {S T : Type 0} → (S → T → Type 0) → Steps S → Steps T → Type 0
SessionsFollow {S} {T} StandFor step other = (s : S) (t : T) → StandFor s t → Follows step s other t

-- what a scan by the one rule is, is one by the other
pub record ScanFollows {S T : Type 0} (step : Steps S) (s : S) (other : Steps T) (t : T) : Type 0 where
  pub whole : (name text : List ℕ) (status : ℕ) → IsScan step s name text status → IsScan other t name text status
  pub front : (name text : List ℕ) → IsFrontOfScan step s name text → IsFrontOfScan other t name text

-- it is so for all standbys that stand for each other
abbrev pub ScansFollow : {S T : Type 0} → (S → T → Type 0) → Steps S → Steps T → Type 0
ScansFollow {S} {T} StandFor step other = (s : S) (t : T) → StandFor s t → ScanFollows step s other t

-- one more request is answered where those before it left the standby
abbrev pub TalksOn : {S : Type 0} → Steps S → Type 0
TalksOn {S} step =
    (requests : List Request) (asked : Request) (answers : List Answer) (answer : Answer) (s mid now : S)
    → Talks step requests s answers mid → Answers step asked mid answer now
    → Talks step (requests ++ asked ∷ []) s (answers ++ answer ∷ []) now

-- of a node, over any log
abbrev pub NodeTalksOn : Type 0
NodeTalksOn = (byte : ℕ → Option ℕ) → TalksOn (NodeStep byte)

-- an event leads a standby to one reply and one standby
abbrev pub OneStep : {S : Type 0} → Steps S → Type 0
OneStep {S} step =
    (event : Event) (s : S) (reply other : Reply) (now later : S) → step event s reply now → step event s other later
    → (reply ≡ other) × (now ≡ later)

-- a scan has one text and one exit status
abbrev pub OneScan : {S : Type 0} → Steps S → Type 0
OneScan {S} step =
    (s : S) (name text other : List ℕ) (status end : ℕ) → IsScan step s name text status → IsScan step s name other end
    → (text ≡ other) × (status ≡ end)

-- so it is of a node, over any log
abbrev pub NodeOneStep : Type 0
NodeOneStep = (byte : ℕ → Option ℕ) → OneStep (NodeStep byte)

abbrev pub NodeOneScan : Type 0
NodeOneScan = (byte : ℕ → Option ℕ) → OneScan (NodeStep byte)
