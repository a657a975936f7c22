-- What a standby answers to the requests of a session, one after the other, for any rule of its single steps.
use Rattle.std.specs.Prelude.{◌≡◌, ℕ, zero, suc, ◌<◌, Bool, true, false, List, [], ◌∷◌, if◌then◌else◌}
use Rattle.std.specs.List.{list_any}
use Rattle.session_text.specs.Requests as request
use Rattle.session_text.specs.Requests.{Request}
use Rattle.session_model.specs.Events.{Event, AsksStatus, ReplayOne, Open, Next, Close, Reply, Applied, is_applied, is_trouble}

-- a rule of steps: what an event does to a standby, and what it replies
abbrev pub Steps : Type 0 → Type 1
Steps S = Event → S → Reply → S → Type 0

-- the answer to a request: it is not understood; one reply; or so many records were applied, and the reply to the last
-- replay, which applied its record too, or did not
pub data Answer : Type 0 where
  NotUnderstood : Answer
  Replied : Reply → Answer
  Replayed : (count : ℕ) → (last : Reply) → Answer

-- so many records are applied one after the other
unfoldable pub Applies : {S : Type 0} → Steps S → ℕ → S → S → Type 0
Applies step zero s now = now ≡ s
Applies {S} step (suc n) s now = (mid : S) × Applies step n s mid × ((at : ℕ) × step ReplayOne mid (Applied at) now)

-- a replay that applied its record is the last of all that were asked for; one that did not is before or at the last
abbrev pub StopsAt : Bool → (before count : ℕ) → Type 0
StopsAt true before count = suc before ≡ count
StopsAt false before count = before < count

-- up to so many single replays, up to the first that applies no record
pub record ReplaysUpTo {S : Type 0} (step : Steps S) (count : ℕ) (s : S) (answer : Answer) (now : S) : Type 0 where
  pub before : ℕ
  pub mid : S
  pub last : Reply
  pub applies : Applies step before s mid
  pub replays : step ReplayOne mid last now
  pub stops : StopsAt (is_applied last) before count
  pub says : answer ≡ Replayed (if is_applied last then suc before else before) last

-- one step
abbrev pub AnswersStep : {S : Type 0} → Steps S → Event → S → Answer → S → Type 0
AnswersStep step event s answer now = (reply : Reply) × step event s reply now × (answer ≡ Replied reply)

-- the answer to a request
abbrev pub Answers : {S : Type 0} → Steps S → Request → S → Answer → S → Type 0
Answers step request.AsksStatus s answer now = AnswersStep step AsksStatus s answer now
Answers step (request.Replays count) s answer now = ReplaysUpTo step count s answer now
Answers step (request.Opens table) s answer now = AnswersStep step (Open table) s answer now
Answers step (request.Reads id) s answer now = AnswersStep step (Next id) s answer now
Answers step (request.Closes id) s answer now = AnswersStep step (Close id) s answer now
Answers step request.Unreadable s answer now = (answer ≡ NotUnderstood) × (now ≡ s)

-- the answers to requests, one for each
unfoldable pub Talks : {S : Type 0} → Steps S → List Request → S → List Answer → S → Type 0
Talks step [] s [] now = now ≡ s
Talks step [] s (answer ∷ answers) now = ⊥
Talks step (asked ∷ requests) s [] now = ⊥
Talks {S} step (asked ∷ requests) s (answer ∷ answers) now = (mid : S) × Answers step asked s answer mid × Talks step requests mid answers now

-- a record was refused, or a scan met damage
abbrev pub is_troubled : Answer → Bool
is_troubled NotUnderstood = false
is_troubled (Replied reply) = is_trouble reply
is_troubled (Replayed count last) = is_trouble last

-- the exit status of a session with these answers
abbrev pub session_status : List Answer → ℕ
session_status answers = if list_any is_troubled answers then 5 else 0
