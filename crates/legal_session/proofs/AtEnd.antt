-- A scan of a table at the log's end is a session: all replays, the opening, and the readings.
use Rattle.std.proofs.Common.{◌≡◌, ◌≢◌, ℕ, suc, ◌+◌, ◌<◌, Bool, true, false, List, [], ◌∷◌, ◌++◌, length, Option, Some, None, Result, Ok, Err, arith, refl, sym, ap, ◌∙◌, subst, if◌then◌else◌}
use Rattle.std.specs.List.{list_any}
use Rattle.std.proofs.lemmas.List.{length-append}
use Rattle.pg_types.specs.declared.names.Lsn.{Lsn}
use Rattle.typed_records.specs.declared.types.Rec.{Rec}
use Rattle.record_numbers.specs.Bytes.{TellsBytes}
use Rattle.recovery_conflict.specs.declared.locks.Cause.{Cause}
use Rattle.session_text.specs.Requests as request
use Rattle.standby_model.specs.Log as log
use Rattle.standby_model.specs.Log.{Stop, next_of}
use Rattle.row_model.specs.RowSteps.{block_count}
use Rattle.table_schema.specs.Reading as schema
use Rattle.table_schema.specs.Tables.{file_of, number_named}
use Rattle.standby_core.specs.declared.types.Refusal.{Refusal}
use Rattle.standby_core.specs.Replay.{refusal_of}
use Rattle.standby_core.specs.Standby.{described_in}
use Rattle.session_model.specs.Events.{Open, Next, Reply, Stands, Applied, AtEnd, Refused, Opened, NoTable, TooMany, NotAdmitted, Page, Closed, NoScan, Gone, Locked, Cancelled, is_applied}
use Rattle.session_model.specs.Answers.{Replayed, ReplaysUpTo, StopsAt, Talks}
use Rattle.session_model.specs.Texts.{reply_text}
use Rattle.session_model.specs.Scans.{ReadsOpened, ReadsOut, ReadsSome, ReplaysAll, ScansBy, end_status, pages_text, refused_text}
use Rattle.legal_session.specs.AbstractStandby.{AbstractStandby, IsLegal, Step, World, life_begins, log_origin, position_of, replayed}
use Rattle.legal_session.specs.GivenRows.{GaveRows, SayFrom, ScansGiveRows, cause_in, ends_scan, is_last_page, page_reply, pages_in, said_in}
use Rattle.legal_session.specs.ScanAtEnd.{CameOut, LogRefused, NotOpened, AllGiven, FrontAtEndGivesRows, GaveAll, GaveBlocks, ScanAtEndGivesRows, scan_text}
use Rattle.legal_session.specs.WholeScans.{joined}
use Rattle.legal_session.proofs.GivenChanges.{Opening, Admits, Declines, opening_of}
use Rattle.legal_session.proofs.GivenHolds.{one_id, one_place}
use Rattle.legal_session.proofs.GivenKept.{kept_record, kept_replays}
use Rattle.legal_session.proofs.Nexts.{IsPage, Nexts, answers, end_is, ends_last, last_is, nexts_of, nexts_on, none_ends, reads, reads_open, said_all, same_life, status_is, talks_of, texts_are}

-- all replays as one request
stops_at : (applied : Bool) (count : ℕ) → applied ≡ false → StopsAt applied count (suc count)
stops_at true count e = cc
stops_at false count e = omega arith

replays_up_to :
    (w : World) (s now : AbstractStandby) (last : Reply) (all : ReplaysAll (Step w) s last now)
    → ReplaysUpTo (Step w) (suc all.count) s (Replayed all.count last) now
replays_up_to w s now last all = record {
  before = all.count;
  mid = all.mid;
  last = last;
  applies = all.applies;
  replays = all.replays;
  stops = stops_at (is_applied last) all.count all.stops;
  says = ap (λ (b : Bool). Replayed (if b then suc all.count else all.count) last) (sym all.stops);
}

replay_talks :
    (w : World) (s now : AbstractStandby) (last : Reply) (all : ReplaysAll (Step w) s last now)
    → Talks (Step w) (request.Replays (suc all.count) ∷ []) s (Replayed all.count last ∷ []) now
unfolding Talks
replay_talks w s now last all = (now, replays_up_to w s now last all, refl)

-- the next id stays the first
still_first :
    (w : World) (redo : Lsn) (s : AbstractStandby) (last : Reply) → ReplaysAll (Step w) (life_begins redo) last s → s.next_id ≡ 1
still_first w redo s last all =
    kept_replays (Step w) (λ (t : AbstractStandby). t.next_id ≡ 1)
    (λ t reply next step holds. kept_record w (λ (u : AbstractStandby). u.next_id ≡ 1) (λ rec u h. h) t reply next step holds)
    (suc all.count) (life_begins redo) s (Replayed all.count last) (replays_up_to w (life_begins redo) s last all) refl

-- what is opened has the standby's next id, and stands at its position; and no record is replayed
record OpensHere (s : AbstractStandby) (id at : ℕ) (now : AbstractStandby) : Type 0 where
  same_id : id ≡ s.next_id
  here : at ≡ position_of s
  life : now.life ≡ s.life

opens_by :
    (w : World) (xmin : ℕ) (s : AbstractStandby) (number : Option ℕ) (id at : ℕ) (now : AbstractStandby)
    → Opening w xmin s number (Opened id at) now → OpensHere s id at now
opens_by w xmin s number id at now (Declines none) = absurd (none.not_opened id at refl)
opens_by w xmin s number id at now (Admits opens) = record {
  same_id = one_id id at s.next_id (position_of s) opens.says;
  here = one_place id at s.next_id (position_of s) opens.says;
  life = ap (λ (t : AbstractStandby). t.life) opens.leads;
}

opens_here :
    (w : World) (name : List ℕ) (s : AbstractStandby) (id at : ℕ) (now : AbstractStandby) → Step w (Open name) s (Opened id at) now
    → OpensHere s id at now
opens_here w name s id at now (xmin, least, opens) =
    opens_by w xmin s (number_named w.tables name) id at now (opening_of w xmin s (number_named w.tables name) (Opened id at) now opens)

-- where it declines nothing changes
declines_by :
    (w : World) (xmin : ℕ) (s : AbstractStandby) (number : Option ℕ) (reply : Reply) (now : AbstractStandby)
    → ((id at : ℕ) → reply ≢ Opened id at) → Opening w xmin s number reply now → now ≡ s
declines_by w xmin s number reply now unlike (Declines none) = none.leads
declines_by w xmin s number reply now unlike (Admits opens) = absurd (unlike s.next_id (position_of s) opens.says)

declined :
    (w : World) (name : List ℕ) (s : AbstractStandby) (reply : Reply) (now : AbstractStandby) → ((id at : ℕ) → reply ≢ Opened id at)
    → Step w (Open name) s reply now → Step w (Open name) s reply s
declined w name s reply now unlike step =
    let (xmin, least, opens) = step in
    subst (λ (t : AbstractStandby). Step w (Open name) s reply t)
    (declines_by w xmin s (number_named w.tables name) reply now unlike (opening_of w xmin s (number_named w.tables name) reply now opens)) step

-- no record more, and so no cause
longer : (n m k : ℕ) → k ≡ suc n + m → k ≢ m
longer n m k e f = omega (arith, e, f)

none_more : (later log : List Rec) → log ≡ later ++ log → later ≡ []
none_more [] log e = refl
none_more (rec ∷ later) log e =
    absurd (longer (length later) (length log) (length log) (ap length e ∙ length-append (rec ∷ later) log) refl)

no_cause : (w : World) (table xmin : ℕ) (later : List Rec) → later ≡ [] → cause_in w table xmin later ≡ None
unfolding cause_in
no_cause w table xmin later none = ap (cause_in w table xmin) none

-- a record that was refused is refused where the standby stands
refused_by :
    (w : World) (mid s : AbstractStandby) (at : ℕ) (what : Refusal) (next : Result Rec Stop)
    → ◌≡◌ {A = Reply × AbstractStandby} (Refused at what, s) (replayed w mid next) → at ≡ position_of s
refused_by w mid s at what (Ok rec) e = absurd (not_applied rec.end.0 (ap (λ (p : Reply × AbstractStandby). p.0) e))
  where
    not_applied : (end : ℕ) → Refused at what ≢ Applied end
    not_applied end f = cc
refused_by w mid s at what (Err (log.Ended why)) e = absurd (not_ended (position_of mid) (ap (λ (p : Reply × AbstractStandby). p.0) e))
  where
    not_ended : (end : ℕ) → Refused at what ≢ AtEnd end why
    not_ended end f = cc
refused_by w mid s at what (Err (log.Refused stop)) e =
    one at (position_of mid) what (refusal_of stop) (ap (λ (p : Reply × AbstractStandby). p.0) e)
    ∙ ap position_of (sym (ap (λ (p : Reply × AbstractStandby). p.1) e))
  where
    one : (a b : ℕ) (what other : Refusal) → ◌≡◌ {A = Reply} (Refused a what) (Refused b other) → a ≡ b
    one a b what other f = cc

module _
    (law : ScansGiveRows) (w : World) (redo : Lsn) (text : List ℕ) (sized : 0 < w.told.segsize) (tells : TellsBytes w.told)
    (described : schema.Answers text (Ok w.tables)) (legal : IsLegal w redo.0) where
  -- what the readings of a scan give that was opened at the end of all replays
  module _
      (name : List ℕ) (id at : ℕ) (last : Reply) (s opened : AbstractStandby) (all : ReplaysAll (Step w) (life_begins redo) last s)
      (opens : Step w (Open name) s (Opened id at) opened) where
    abbrev GaveTable : List Reply → AbstractStandby → Type 0
    GaveTable replies now =
        (table : ℕ) × (number_named w.tables name ≡ Some table) × GaveRows w s table id (answers w id replies) now

    gave : (replies : List Reply) (now : AbstractStandby) → Nexts w id replies opened now → GaveTable replies now
    gave replies now nexts =
        let (table, named, here, given, none) =
        law w redo text sized tells described legal (request.Replays (suc all.count) ∷ []) (reads w id replies)
        (Replayed all.count last ∷ []) (answers w id replies) name id at s opened now
        (replay_talks w (life_begins redo) s last all) (Opened id at, opens, refl) (talks_of w id replies opened now nexts) in
        (table, named, given)

    none_later :
        (replies : List Reply) (now : AbstractStandby) → Nexts w id replies opened now → (table : ℕ)
        → (given : GaveRows w s table id (answers w id replies) now) → given.later ≡ []
    none_later replies now nexts table given =
        none_more given.later s.life
        (sym (same_life w id replies opened now nexts ∙ (opens_here w name s id at opened opens).life) ∙ given.since)

    is_first : id ≡ 1
    is_first = (opens_here w name s id at opened opens).same_id ∙ still_first w redo s last all

    opening_text : (replies : List Reply) → reply_text (Opened id at) ++ pages_text replies ≡ scan_text s replies
    opening_text replies =
        ap (λ (n : ℕ). reply_text (Opened n at) ++ pages_text replies) is_first
        ∙ ap (λ (n : ℕ). reply_text (Opened 1 n) ++ pages_text replies) (opens_here w name s id at opened opens).here

    blocks :
        (replies : List Reply) (now : AbstractStandby) → Nexts w id replies opened now → (table : ℕ)
        → number_named w.tables name ≡ Some table → GaveRows w s table id (answers w id replies) now → GaveBlocks w s name replies
    blocks replies now nexts table named given = record {
      table = table;
      named = named;
      rows = given.rows;
      are_rows = given.are_rows;
      says =
          let page = page_reply w table (block_count (log_origin w) (file_of w.tables table) s.life) given.rows in
          subst (λ (n : ℕ). SayFrom (page n) None 0 replies) is_first
          (subst (λ (cause : Option Cause). SayFrom (page id) cause 0 replies)
          (no_cause w table given.xmin given.later (none_later replies now nexts table given))
          (subst (λ (said : List Reply). SayFrom (page id) (cause_in w table given.xmin given.later) 0 said)
          (said_all w id replies opened now nexts) given.says));
    }

    -- the last reading is a page too
    last_page :
        (pages : List Reply) (mid : AbstractStandby) (end : Reply) (now : AbstractStandby) → ReadsSome (Step w) id opened pages mid
        → Step w (Next id) mid end now → GaveTable pages mid → IsPage id end × (now.life ≡ mid.life)
    last_page pages mid end now some step (table, named, given) =
        let nexts = nexts_of w id pages opened mid some in
        reads_open w id mid end now
        (record {
          id = id;
          table = table;
          opened = s.life;
          xmin = given.xmin;
          given = length (said_in id (answers w id pages));
          cause = cause_in w table given.xmin given.later;
        })
        step
        (given.goes_on
        (ap (list_any ends_scan) (said_all w id pages opened mid nexts) ∙ none_ends w id pages opened mid some))
        (no_cause w table given.xmin given.later (none_later pages mid nexts table given))

    all_given :
        (rows shown : List ℕ) (status : ℕ) (out : ReadsOut (Step w) id opened rows status) → shown ≡ reply_text (Opened id at) ++ rows
        → IsPage id out.last × (out.now.life ≡ out.mid.life) → GaveAll w s name shown status
    unfolding blocks gave
    all_given rows shown status out says (page, life) =
        let replies = out.pages ++ out.last ∷ [] in
        let nexts =
        nexts_on w id out.pages out.last opened out.mid out.now (nexts_of w id out.pages opened out.mid out.reads) out.ends page life in
        let (table, named, given) = gave replies out.now nexts in
        let ends = ends_last out.pages out.last (last_is id out.last page out.no_more) in
        let said = said_all w id replies opened out.now nexts in record {
          replies = replies;
          gave = blocks replies out.now nexts table named given;
          ends = ends;
          whole = ap (λ (r : List Reply). joined (pages_in r)) (sym said) ∙ given.whole (ap (list_any is_last_page) said ∙ ends);
          says =
              says ∙ ap (λ (t : List ℕ). reply_text (Opened id at) ++ t) (out.says ∙ texts_are out.pages out.last)
              ∙ opening_text replies;
          is_status =
              out.is_status ∙ status_is id out.last page
              ∙ ap end_status (sym (end_is w id out.pages out.last opened out.mid out.reads page));
        }

    opened_out : (shown : List ℕ) (status : ℕ) → ReadsOpened (Step w) (Opened id at) opened shown status → GaveAll w s name shown status
    opened_out shown status (rows, out, says) =
        all_given rows shown status out says
        (last_page out.pages out.mid out.last out.now out.reads out.ends
        (gave out.pages out.mid (nexts_of w id out.pages opened out.mid out.reads)))

  -- by the reply to the opening, and to the last replay
  module _ (name shown : List ℕ) (status : ℕ) (s : AbstractStandby) where
    not_opened :
        (reply : Reply) (now : AbstractStandby) → ((id at : ℕ) → reply ≢ Opened id at) → Step w (Open name) s reply now
        → (shown ≡ reply_text reply) × (status ≡ 1) → CameOut w s name shown status
    not_opened reply now unlike opens (says, is) = NotOpened reply (declined w name s reply now unlike opens) unlike says is

    by_opening :
        (last reply : Reply) (now : AbstractStandby) → ReplaysAll (Step w) (life_begins redo) last s → Step w (Open name) s reply now
        → ReadsOpened (Step w) reply now shown status → CameOut w s name shown status
    by_opening last (Opened id at) now all opens reads = AllGiven (opened_out name id at last s now all opens shown status reads)
    by_opening last (Stands standing) now all opens reads = not_opened (Stands standing) now (λ id at e. cc) opens reads
    by_opening last (Applied at) now all opens reads = not_opened (Applied at) now (λ id at e. cc) opens reads
    by_opening last (AtEnd at why) now all opens reads = not_opened (AtEnd at why) now (λ id at e. cc) opens reads
    by_opening last (Refused at what) now all opens reads = not_opened (Refused at what) now (λ id at e. cc) opens reads
    by_opening last NoTable now all opens reads = not_opened NoTable now (λ id at e. cc) opens reads
    by_opening last TooMany now all opens reads = not_opened TooMany now (λ id at e. cc) opens reads
    by_opening last (NotAdmitted standing) now all opens reads = not_opened (NotAdmitted standing) now (λ id at e. cc) opens reads
    by_opening last (Page id table block more page) now all opens reads =
        not_opened (Page id table block more page) now (λ other at e. cc) opens reads
    by_opening last (Closed id) now all opens reads = not_opened (Closed id) now (λ other at e. cc) opens reads
    by_opening last NoScan now all opens reads = not_opened NoScan now (λ id at e. cc) opens reads
    by_opening last (Gone lsn) now all opens reads = not_opened (Gone lsn) now (λ id at e. cc) opens reads
    by_opening last (Locked lsn xid) now all opens reads = not_opened (Locked lsn xid) now (λ id at e. cc) opens reads
    by_opening last (Cancelled id cause) now all opens reads = not_opened (Cancelled id cause) now (λ other at e. cc) opens reads

    by_last : (last : Reply) → ReplaysAll (Step w) (life_begins redo) last s → ScansBy (Step w) last s name shown status → CameOut w s name shown status
    by_last (AtEnd at why) all scans = by_opening (AtEnd at why) scans.reply scans.opened all scans.opens scans.reads
    by_last (Refused at what) all (says, is) =
        LogRefused what
        (says
        ∙ ap (λ (n : ℕ). refused_text n what)
        (refused_by w all.mid s at what (next_of w.told (described_in w.tables) all.mid.start all.mid.life) all.replays))
        is
    by_last (Stands standing) all scans = absurd scans
    by_last (Applied at) all scans = absurd scans
    by_last (Opened id at) all scans = absurd scans
    by_last NoTable all scans = absurd scans
    by_last TooMany all scans = absurd scans
    by_last (NotAdmitted standing) all scans = absurd scans
    by_last (Page id table block more page) all scans = absurd scans
    by_last (Closed id) all scans = absurd scans
    by_last NoScan all scans = absurd scans
    by_last (Gone lsn) all scans = absurd scans
    by_last (Locked lsn xid) all scans = absurd scans
    by_last (Cancelled id cause) all scans = absurd scans

pub scan_at_end_holds : ScansGiveRows → ScanAtEndGivesRows
scan_at_end_holds law w redo text sized tells described legal name shown status scan =
    by_last law w redo text sized tells described legal name shown status scan.ended scan.last scan.replays scan.scans

pub front_holds : ScansGiveRows → FrontAtEndGivesRows
front_holds law w redo text sized tells described legal name shown front =
    let first = front.reads in
    let end = AtEnd front.at front.why in
    let nexts = nexts_of w first.id first.pages first.opened first.now first.reads in
    let (table, named, given) =
    gave law w redo text sized tells described legal name first.id first.at end front.ended first.opened front.replays first.opens
    first.pages first.now nexts in (
      first.pages,
      blocks law w redo text sized tells described legal name first.id first.at end front.ended first.opened front.replays first.opens
          first.pages first.now nexts table named given,
      none_ends w first.id first.pages first.opened first.now first.reads,
      first.says
          ∙ opening_text law w redo text sized tells described legal name first.id first.at end front.ended first.opened front.replays
          first.opens first.pages,
    )
