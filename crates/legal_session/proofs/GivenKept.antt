-- What each step keeps, a session keeps; and how an abstract standby stands along its life.
use Rattle.std.proofs.Common.{◌≡◌, ◌≢◌, ℕ, zero, suc, ◌+◌, ◌≤◌, Bool, true, false, ◌&&◌, List, [], ◌∷◌, map, None, Result, Ok, Err, arith, sym, ap, ◌∙◌, subst}
use Rattle.typed_records.specs.declared.types.Rec.{Rec}
use Rattle.session_text.specs.Requests as request
use Rattle.session_text.specs.Requests.{Request}
use Rattle.standby_model.specs.Log as log
use Rattle.standby_model.specs.Log.{Stands, Stop, next_of}
use Rattle.standby_core.specs.Scans.{is_whole}
use Rattle.standby_core.specs.Standby.{described_in}
use Rattle.session_model.specs.Events.{Event, AsksStatus, ReplayOne, Open, Next, Close, Reply, Applied}
use Rattle.session_model.specs.Answers.{Answer, Answers, Applies, ReplaysUpTo, Steps, Talks}
use Rattle.legal_session.specs.AbstractStandby.{AbstractStandby, Step, World, after_block, after_close, after_record, met, replayed, with_scan}
use Rattle.legal_session.proofs.GivenChanges.{Change, Same, More, Adds, Gives, Cancels, Shuts, change_of}
use Rattle.legal_session.proofs.GivenScans.{found, found_met, found_more, none_given, none_without}

module _ {S : Type 0} (step : Steps S) (P : S → Type 0) where
  -- what a replay keeps, all replays of a request keep
  module _ (keeps : (s : S) (reply : Reply) (now : S) → step ReplayOne s reply now → P s → P now) where
    kept_applies : (n : ℕ) (s now : S) → Applies step n s now → P s → P now
    unfolding Applies
    kept_applies zero s now same holds = subst P (sym same) holds
    kept_applies (suc n) s now (mid, before, (at, last)) holds =
        keeps mid (Applied at) now last (kept_applies n s mid before holds)

    pub kept_replays : (count : ℕ) (s now : S) (answer : Answer) → ReplaysUpTo step count s answer now → P s → P now
    kept_replays count s now answer all holds =
        keeps all.mid all.last now all.replays (kept_applies all.before s all.mid all.applies holds)

  -- what each step keeps, a session keeps
  module _ (keeps : (event : Event) (s : S) (reply : Reply) (now : S) → step event s reply now → P s → P now) where
    pub kept_answers : (asked : Request) (s now : S) (answer : Answer) → Answers step asked s answer now → P s → P now
    kept_answers request.AsksStatus s now answer (reply, does, says) holds = keeps AsksStatus s reply now does holds
    kept_answers (request.Replays count) s now answer all holds = kept_replays (keeps ReplayOne) count s now answer all holds
    kept_answers (request.Opens table) s now answer (reply, does, says) holds = keeps (Open table) s reply now does holds
    kept_answers (request.Reads id) s now answer (reply, does, says) holds = keeps (Next id) s reply now does holds
    kept_answers (request.Closes id) s now answer (reply, does, says) holds = keeps (Close id) s reply now does holds
    kept_answers request.Unreadable s now answer (says, same) holds = subst P (sym same) holds

    pub kept_talks : (requests : List Request) (answers : List Answer) (s now : S) → Talks step requests s answers now → P s → P now
    unfolding Talks
    kept_talks [] [] s now same holds = subst P (sym same) holds
    kept_talks [] (answer ∷ answers) s now talks holds = absurd talks
    kept_talks (asked ∷ requests) [] s now talks holds = absurd talks
    kept_talks (asked ∷ requests) (answer ∷ answers) s now (mid, answered, rest) holds =
        kept_talks requests answers mid now rest (kept_answers asked s mid answer answered holds)

-- a replay applies a record, or nothing changes
pub kept_record :
    (w : World) (P : AbstractStandby → Type 0) → ((rec : Rec) (s : AbstractStandby) → P s → P (after_record w rec s))
    → (s : AbstractStandby) (reply : Reply) (now : AbstractStandby) → Step w ReplayOne s reply now → P s → P now
kept_record w P keeps s reply now step holds =
    by (next_of w.told (described_in w.tables) s.start s.life) step
  where
    by : (next : Result Rec Stop) → ◌≡◌ {A = Reply × AbstractStandby} (reply, now) (replayed w s next) → P now
    by (Ok rec) e = subst P (sym (ap (λ (p : Reply × AbstractStandby). p.1) e)) (keeps rec s holds)
    by (Err (log.Ended why)) e = subst P (sym (ap (λ (p : Reply × AbstractStandby). p.1) e)) holds
    by (Err (log.Refused what)) e = subst P (sym (ap (λ (p : Reply × AbstractStandby). p.1) e)) holds

-- the log of a standby whose life began here stands, and no open scan has an id from the next one on
pub record IsSound (w : World) (start : ℕ) (s : AbstractStandby) : Type 0 where
  pub begins : s.start ≡ start
  pub stands : Stands w.told (described_in w.tables) start s.life
  pub free : (id : ℕ) → s.next_id ≤ id → found id s.scans ≡ []

module _ (w : World) (start : ℕ) where
  sound_more :
      (rec : Rec) (s : AbstractStandby) → IsSound w start s → next_of w.told (described_in w.tables) s.start s.life ≡ Ok rec
      → IsSound w start (after_record w rec s)
  sound_more rec s is next = record {
    begins = is.begins;
    stands = (subst (λ (from : ℕ). next_of w.told (described_in w.tables) from s.life ≡ Ok rec) is.begins next, is.stands);
    free = λ id past. found_met id w rec s.scans ∙ ap (map (met w rec)) (is.free id past);
  }

  apart_from : (a b : ℕ) → a + 1 ≤ b → a ≢ b
  apart_from a b past same = omega (arith, past, same)

  sound_adds : (table xmin : ℕ) (s : AbstractStandby) → IsSound w start s → IsSound w start (with_scan table xmin s)
  sound_adds table xmin s is = record {
    begins = is.begins;
    stands = is.stands;
    free = λ id past.
        found_more id s.scans (record { id = s.next_id; table = table; opened = s.life; xmin = xmin; given = 0; cause = None })
        (apart_from s.next_id id past)
        ∙ is.free id (omega (arith, past));
  }

  sound_block : (id : ℕ) (goes_on : Bool) (s : AbstractStandby) → IsSound w start s → IsSound w start (after_block id goes_on s)
  sound_block id true s is =
      record { begins = is.begins; stands = is.stands; free = λ other past. none_given other id s.scans (is.free other past) }
  sound_block id false s is =
      record { begins = is.begins; stands = is.stands; free = λ other past. none_without other id s.scans (is.free other past) }

  sound_close : (id : ℕ) (s : AbstractStandby) → IsSound w start s → IsSound w start (after_close id s)
  sound_close id s is =
      record { begins = is.begins; stands = is.stands; free = λ other past. none_without other id s.scans (is.free other past) }

  sound_by : (s : AbstractStandby) (reply : Reply) (now : AbstractStandby) → Change w s reply now → IsSound w start s → IsSound w start now
  sound_by s reply now (Same quiet leads) is = subst (λ (t : AbstractStandby). IsSound w start t) (sym leads) is
  sound_by s reply now (More rec quiet next leads) is =
      subst (λ (t : AbstractStandby). IsSound w start t) (sym leads) (sound_more rec s is next)
  sound_by s reply now (Adds table xmin quiet leads) is =
      subst (λ (t : AbstractStandby). IsSound w start t) (sym leads) (sound_adds table xmin s is)
  sound_by s reply now (Gives id scan page more e open_ gives says leads) is =
      subst (λ (t : AbstractStandby). IsSound w start t) (sym leads) (sound_block id (more && is_whole page.end) s is)
  sound_by s reply now (Cancels id scan cause e cancelled says leads) is =
      subst (λ (t : AbstractStandby). IsSound w start t) (sym leads) (sound_close id s is)
  sound_by s reply now (Shuts id says leads) is =
      subst (λ (t : AbstractStandby). IsSound w start t) (sym leads) (sound_close id s is)

  sound_step :
      (event : Event) (s : AbstractStandby) (reply : Reply) (now : AbstractStandby) → Step w event s reply now → IsSound w start s
      → IsSound w start now
  sound_step event s reply now step is = sound_by s reply now (change_of w s event reply now step) is

  pub sound_answers :
      (asked : Request) (s now : AbstractStandby) (answer : Answer) → Answers (Step w) asked s answer now → IsSound w start s
      → IsSound w start now
  sound_answers asked s now answer answered is =
      kept_answers (Step w) (λ (t : AbstractStandby). IsSound w start t) sound_step asked s now answer answered is

  pub sound_talks :
      (requests : List Request) (answers : List Answer) (s now : AbstractStandby) → Talks (Step w) requests s answers now
      → IsSound w start s → IsSound w start now
  sound_talks requests answers s now talks is =
      kept_talks (Step w) (λ (t : AbstractStandby). IsSound w start t) sound_step requests answers s now talks is

-- the next id never falls
module _ (w : World) (least : ℕ) where
  grows_by : (s : AbstractStandby) (reply : Reply) (now : AbstractStandby) → Change w s reply now → least ≤ s.next_id → least ≤ now.next_id
  grows_by s reply now (Same quiet leads) less = subst (λ (t : AbstractStandby). least ≤ t.next_id) (sym leads) less
  grows_by s reply now (More rec quiet next leads) less = subst (λ (t : AbstractStandby). least ≤ t.next_id) (sym leads) less
  grows_by s reply now (Adds table xmin quiet leads) less =
      subst (λ (t : AbstractStandby). least ≤ t.next_id) (sym leads) (one_more s.next_id less)
    where
      one_more : (n : ℕ) → least ≤ n → least ≤ n + 1
      one_more n below = omega (arith, below)
  grows_by s reply now (Gives id scan page more e free gives says leads) less =
      subst (λ (t : AbstractStandby). least ≤ t.next_id) (sym leads) less
  grows_by s reply now (Cancels id scan cause e cancelled says leads) less =
      subst (λ (t : AbstractStandby). least ≤ t.next_id) (sym leads) less
  grows_by s reply now (Shuts id says leads) less = subst (λ (t : AbstractStandby). least ≤ t.next_id) (sym leads) less

  grows_step :
      (event : Event) (s : AbstractStandby) (reply : Reply) (now : AbstractStandby) → Step w event s reply now → least ≤ s.next_id
      → least ≤ now.next_id
  grows_step event s reply now step less = grows_by s reply now (change_of w s event reply now step) less

  least_answers :
      (asked : Request) (s now : AbstractStandby) (answer : Answer) → Answers (Step w) asked s answer now → least ≤ s.next_id
      → least ≤ now.next_id
  least_answers asked s now answer answered less =
      kept_answers (Step w) (λ (t : AbstractStandby). least ≤ t.next_id) grows_step asked s now answer answered less

  least_talks :
      (requests : List Request) (answers : List Answer) (s now : AbstractStandby) → Talks (Step w) requests s answers now
      → least ≤ s.next_id → least ≤ now.next_id
  least_talks requests answers s now talks less =
      kept_talks (Step w) (λ (t : AbstractStandby). least ≤ t.next_id) grows_step requests answers s now talks less

itself : (n : ℕ) → n ≤ n
itself n = omega arith

pub grows_answers :
    (w : World) (asked : Request) (s now : AbstractStandby) (answer : Answer) → Answers (Step w) asked s answer now
    → s.next_id ≤ now.next_id
grows_answers w asked s now answer answered = least_answers w s.next_id asked s now answer answered (itself s.next_id)

pub grows_talks :
    (w : World) (requests : List Request) (answers : List Answer) (s now : AbstractStandby) → Talks (Step w) requests s answers now
    → s.next_id ≤ now.next_id
grows_talks w requests answers s now talks = least_talks w s.next_id requests answers s now talks (itself s.next_id)
