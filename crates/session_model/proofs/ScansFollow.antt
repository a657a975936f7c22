-- Where one rule of steps stands for another, what is scanned by the one is scanned by the other.
use Rattle.std.proofs.Common.{ℕ, List, [], ◌∷◌, inl, inr, refl, sym, subst}
use Rattle.session_model.specs.Events.{Reply, ReplayOne, Open, Next, AtEnd, Opened}
use Rattle.session_model.specs.Answers.{Steps}
use Rattle.session_model.specs.Laws.{ScansFollow, Simulates}
use Rattle.session_model.specs.Scans.{IsFrontOfScan, IsScan, ReadsFirst, ReadsOpened, ReadsOut, ReadsSome, ReplaysAll, ScansBy, ScansTable}
use Rattle.session_model.proofs.Follows.{applies}

module _ {S T : Type 0} (StandFor : S → T → Type 0) (step : Steps S) (other : Steps T) (simulates : Simulates StandFor step other) where
  replays_all : (s now : S) (last : Reply) (t : T) → StandFor s t → ReplaysAll step s last now
      → (later : T) × ReplaysAll other t last later × StandFor now later
  replays_all s now last t stand done =
      let before = applies StandFor step other simulates done.count s done.mid t stand done.applies in
      let ended = simulates done.mid before.0 before.2 ReplayOne last now done.replays in (
        ended.0,
        record { count = done.count; mid = before.0; applies = before.1; replays = ended.1; stops = done.stops },
        ended.2,
      )

  reads_some : (id : ℕ) (pages : List Reply) (s now : S) (t : T) → StandFor s t → ReadsSome step id s pages now
      → (later : T) × ReadsSome other id t pages later × StandFor now later
  unfolding ReadsSome
  reads_some id [] s now t stand done = (t, refl, subst (λ x. StandFor x t) (sym done) stand)
  reads_some id (page ∷ pages) s now t stand done =
      let first = simulates s t stand (Next id) page done.0 done.1 in
      let others = reads_some id pages done.0 now first.0 first.2 done.3 in
      (others.0, (first.0, first.1, done.2, others.1), others.2)

  reads_out : (id : ℕ) (s : S) (text : List ℕ) (status : ℕ) (t : T) → StandFor s t → ReadsOut step id s text status
      → ReadsOut other id t text status
  reads_out id s text status t stand done =
      let before = reads_some id done.pages s done.mid t stand done.reads in
      let ended = simulates done.mid before.0 before.2 (Next id) done.last done.now done.ends in
      record {
        pages = done.pages;
        mid = before.0;
        reads = before.1;
        last = done.last;
        now = ended.0;
        ends = ended.1;
        no_more = done.no_more;
        says = done.says;
        is_status = done.is_status;
      }

  reads_opened : (reply : Reply) (s : S) (text : List ℕ) (status : ℕ) (t : T) → StandFor s t → ReadsOpened step reply s text status
      → ReadsOpened other reply t text status
  reads_opened (Opened id at) s text status t stand done = (done.0, reads_out id s done.0 status t stand done.1, done.2)
  reads_opened reply s text status t stand done = done

  scans_table : (s : S) (name text : List ℕ) (status : ℕ) (t : T) → StandFor s t → ScansTable step s name text status
      → ScansTable other t name text status
  scans_table s name text status t stand done =
      let opened = simulates s t stand (Open name) done.reply done.opened done.opens in
      record {
        reply = done.reply;
        opened = opened.0;
        opens = opened.1;
        reads = reads_opened done.reply done.opened text status opened.0 opened.2 done.reads;
      }

  scans_by : (last : Reply) (s : S) (name text : List ℕ) (status : ℕ) (t : T) → StandFor s t → ScansBy step last s name text status
      → ScansBy other last t name text status
  scans_by (AtEnd at why) s name text status t stand done = scans_table s name text status t stand done
  scans_by last s name text status t stand done = done

  whole : (s : S) (t : T) → StandFor s t → (name text : List ℕ) (status : ℕ) → IsScan step s name text status
      → IsScan other t name text status
  whole s t stand name text status is =
      let ended = replays_all s is.ended is.last t stand is.replays in
      record {
        last = is.last;
        ended = ended.0;
        replays = ended.1;
        scans = scans_by is.last is.ended name text status ended.0 ended.2 is.scans;
      }

  reads_first : (s : S) (name text : List ℕ) (t : T) → StandFor s t → ReadsFirst step s name text → ReadsFirst other t name text
  reads_first s name text t stand done =
      let opened = simulates s t stand (Open name) (Opened done.id done.at) done.opened done.opens in
      let read = reads_some done.id done.pages done.opened done.now opened.0 opened.2 done.reads in
      record {
        id = done.id;
        at = done.at;
        opened = opened.0;
        opens = opened.1;
        pages = done.pages;
        now = read.0;
        reads = read.1;
        says = done.says;
      }

  front : (s : S) (t : T) → StandFor s t → (name text : List ℕ) → IsFrontOfScan step s name text → IsFrontOfScan other t name text
  front s t stand name text (inl none) = inl none
  front s t stand name text (inr some) =
      let ended = replays_all s some.ended (AtEnd some.at some.why) t stand some.replays in
      inr (record {
        at = some.at;
        why = some.why;
        ended = ended.0;
        replays = ended.1;
        reads = reads_first some.ended name text ended.0 ended.2 some.reads;
      })

  pub scans_follow : ScansFollow StandFor step other
  scans_follow s t stand = record { whole = whole s t stand; front = front s t stand }
