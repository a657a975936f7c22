-- Each event but a page of a scan: the node's step is the abstract one.
use Rattle.std.proofs.Common.{◌≡◌, ℕ, ◌+◌, ◌^◌, Bool, true, false, not, ◌&&◌, ◌||◌, nat_lt, nat_le, List, [], ◌∷◌, length, map, get_or, Option, option_map, Some, None, Result, Ok, Err, refl, sym, ap, ◌∙◌, subst, if◌then◌else◌, inl}
use Rattle.std.specs.Prelude.{is_some}
use Rattle.std.proofs.lemmas.Bool.{and_parts}
use Rattle.std.proofs.lemmas.List.Elements.{All-nil}
use Rattle.pg_types.specs.declared.names.Lsn.{Lsn}
use Rattle.wal_record.specs.declared.types.PrevRule.{PrevRule}
use Rattle.wal_reader.specs.Told.{Told}
use Rattle.typed_records.specs.declared.types.Rec.{Rec}
use Rattle.heap_redo.specs.declared.fault.RedoFault.{RedoFault}
use Rattle.heap_redo.specs.Redone.{redone_record, table_of}
use Rattle.known_assigned.specs.declared.state.State.{State}
use Rattle.known_assigned.specs.declared.state.State.TheVariants.{Ready}
use Rattle.page_store.specs.Seen.{View}
use Rattle.standby_snapshot.specs.Snapshot.{take_of}
use Rattle.xact_redo.specs.State.{state_after}
use Rattle.recovery_conflict.specs.declared.locks.HeldLock.{HeldLock as NodeLock}
use Rattle.recovery_conflict.specs.Held.{last_of, locks_after}
use Rattle.row_model.specs.Conflicts.{conflicts}
use Rattle.row_model.specs.Locks.{HeldLock, is_gone, locks}
use Rattle.row_model.specs.RowSteps.{block_count, view_after}
use Rattle.row_visibility.specs.Sees.{NoneBelowXmin}
use Rattle.table_schema.specs.Description.{Description, locators}
use Rattle.table_schema.specs.Reading as schema
use Rattle.table_schema.specs.Tables.{file_of, number_named}
use Rattle.standby_model.specs.Log as log
use Rattle.standby_model.specs.Log.{Stop, next_of, record_at}
use Rattle.standby_core.specs.declared.scans.NodeScan.{NodeScan}
use Rattle.standby_core.specs.declared.scans.Opened.{Opened as OpenedBy}
use Rattle.standby_core.specs.Conflicts.{cancelled_by, gone_after, oid_of}
use Rattle.standby_core.specs.Horizon.{parents_kept}
use Rattle.standby_core.specs.Replay.{awaited_after, refusal_of}
use Rattle.standby_core.specs.Scans.{OpensAdmitted, OpensTable, OpensUnlessCrowded, OpensUnlessGone, OpensUnlessLocked, gone_since, is_admitted, is_crowded as is_node_crowded, is_ready, is_there, lock_of, most_scans, new_scan, scan_with, with_new_scan, without}
use Rattle.standby_core.specs.Standby.{Standby, described_in, described_to, node_status, told_to}
use Rattle.session_model.specs.Events.{AsksStatus, ReplayOne, Open, Close, Reply, Status, Stands as StandsSo, AtEnd, Refused, Opened, NoTable, TooMany, NotAdmitted, Closed, NoScan, Gone, Locked}
use Rattle.session_model.specs.NodeSteps.{NodeStep, ReplaysBlocks, ReplaysOne, applied, opening_reply, status_by}
use Rattle.legal_session.proofs.Described.{file_is_found}
use Rattle.legal_session.specs.AbstractStandby.{AbstractScan, AbstractStandby, IsLeastLive, Step, World, admits, after_close, after_record, gone_at, is_crowded, last_lock, log_origin, met, oid_with, opened, opened_unless, position_of, replayed, scan_in, state_in, status_in, with_scan, without_scan}
use Rattle.legal_session.specs.Represents.{Represents, StandForScans, StandsForScan, gone_along, locks_along}
use Rattle.legal_session.proofs.Facts.{IsGood, Laws, legal_log, one_count, redone_is, seen_there, table_shown}
use Rattle.legal_session.proofs.Forgotten.{forgets}
use Rattle.legal_session.proofs.Gone.{as_number, gone_is, not_gone}
use Rattle.legal_session.proofs.Locks.{as_held, last_is, none_locked}
use Rattle.legal_session.proofs.Scans.{are_found, are_without, both_found, later_scans, one_opened, same_count}
use Rattle.standby_core.proofs.Opening.{ready_when}

-- the abstract standby then, which is what the step leads to
abbrev pub LeadsTo : World → ℕ → (AbstractStandby → Type 0) → Standby → Type 0
LeadsTo w start steps now = (next : AbstractStandby) × steps next × Represents w start now next

-- with other scans
pub with_scans :
    (w : World) (start : ℕ) (node : Standby) (s : AbstractStandby) (ones : List NodeScan) (scans : List AbstractScan)
    → Represents w start node s → StandForScans w s.life node.transactions ones scans
    → Represents w start (record node { scans = ones }) (record s { scans = scans })
with_scans w start node s ones scans is all = record {
  begins = is.begins;
  stands = is.stands;
  tables = is.tables;
  told = is.told;
  at = is.at;
  prev = is.prev;
  min = is.min;
  awaited = is.awaited;
  blocks = is.blocks;
  transactions = is.transactions;
  scans = all;
  next_id = is.next_id;
  held = is.held;
  gone = is.gone;
}

abbrev status_so : ℕ → ℕ → Bool → State → ℕ → Status
status_so at min awaited state scans = record { at = at; min = min; awaited = awaited; state = state; scans = scans }

-- where a record is applied the node stands for the standby that replayed it
pub applied_is :
    NoneBelowXmin → (w : World) (start : ℕ) (s : AbstractStandby) (node : Standby) (rec : Rec) (view : View) → Represents w start node s
    → next_of w.told (described_in w.tables) start s.life ≡ Ok rec
    → view_after (log_origin w) (locators w.tables) (rec ∷ s.life) ≡ Ok view
    → Represents w start (applied rec view node) (after_record w rec s)
unfolding locks_along gone_along
applied_is none w start s node rec view is next redone =
    let kept = forgets none s.life rec node.scans node.transactions is.transactions in record {
      begins = is.begins;
      stands = (next, is.stands);
      tables = is.tables;
      told = is.told;
      at = refl;
      prev = refl;
      min = is.min;
      awaited = ap (λ (a : Option Lsn). awaited_after rec.kind a) is.awaited;
      blocks = redone;
      transactions = (node.transactions, kept.bound, is.transactions, kept.may, kept.same);
      scans = subst (λ (t : Description). StandForScans w (rec ∷ s.life) (parents_kept rec node.scans (state_after rec node.transactions)) (cancelled_by rec t node.scans) (map (met w rec) s.scans)) (sym is.tables)
          (later_scans w rec s.life node.transactions (parents_kept rec node.scans (state_after rec node.transactions)) kept.bound kept.may kept.same node.scans s.scans kept.below is.scans);
      next_id = is.next_id;
      held = ap (locks_after rec) is.held;
      gone = ap (λ (t : Description). gone_after rec (locators t) node.gone) is.tables ∙ ap (gone_after rec (locators w.tables)) is.gone;
    }

module _ (laws : Laws) (w : World) (start : ℕ) (good : IsGood w start) (s : AbstractStandby) (node : Standby) (is : Represents w start node s) where
  -- what is known of running transactions
  mode_is : node.transactions.known.mode ≡ state_in s
  mode_is =
      laws.along (log_origin w).transactions s.life node.transactions
      (legal_log laws.logs w start good s.life is.stands).transactions is.transactions

  pub status_is : status_by (node_status node) ≡ status_in s
  unfolding node_status
  status_is =
      ap (λ (at : ℕ). status_so at node.min.0 (is_some node.awaited) node.transactions.known.mode (length node.scans)) is.at
      ∙ ap (λ (min : ℕ). status_so (position_of s) min (is_some node.awaited) node.transactions.known.mode (length node.scans)) is.min
      ∙ ap (λ (a : Option Lsn). status_so (position_of s) s.min (is_some a) node.transactions.known.mode (length node.scans)) is.awaited
      ∙ ap (λ (m : State). status_so (position_of s) s.min (is_some s.awaited) m (length node.scans)) mode_is
      ∙ ap (λ (n : ℕ). status_so (position_of s) s.min (is_some s.awaited) (state_in s) n) (same_count w s.life node.transactions node.scans s.scans is.scans)

  -- what stands at the node's position
  pub found_is :
      record_at (told_to node w.told.byte) (described_to node) node.at.0 node.prev
      ≡ next_of w.told (described_in w.tables) start s.life
  found_is =
      ap (λ (t : Told). record_at t (described_to node) node.at.0 node.prev) is.told
      ∙ ap (λ (t : Description). record_at w.told (described_in t) node.at.0 node.prev) is.tables
      ∙ ap (λ (at : ℕ). record_at w.told (described_in w.tables) at node.prev) is.at
      ∙ ap (λ (prev : PrevRule). record_at w.told (described_in w.tables) (position_of s) prev) is.prev
      ∙ ap (λ (from : ℕ). next_of w.told (described_in w.tables) from s.life) is.begins

  pub replays :
      (reply : Reply) (now : Standby) (found : Result Rec Stop) → next_of w.told (described_in w.tables) start s.life ≡ found
      → ReplaysOne found node reply now
      → LeadsTo w start (λ next. ◌≡◌ {A = Reply × AbstractStandby} (reply, next) (replayed w s found)) now
  replays reply now (Err (log.Ended why)) e (says, same) = (
    s,
    ap (λ (r : Reply). (r, s)) (says ∙ ap (λ (at : ℕ). AtEnd at why) is.at),
    subst (λ (n : Standby). Represents w start n s) (sym same) is,
  )
  replays reply now (Err (log.Refused what)) e (says, same) = (
    s,
    ap (λ (r : Reply). (r, s)) (says ∙ ap (λ (at : ℕ). Refused at (refusal_of what)) is.at),
    subst (λ (n : Standby). Represents w start n s) (sym same) is,
  )
  replays reply now (Ok rec) e step =
      let legal = legal_log laws.logs w start good (rec ∷ s.life) (e, is.stands) in
      let here : redone_record rec (locators node.tables) node.blocks ≡ (legal.view, Ok tt) =
      subst (λ (t : Description). redone_record rec (locators t) node.blocks ≡ (legal.view, Ok tt)) (sym is.tables)
      (redone_is w rec s.life node.blocks legal.view is.blocks legal.redone) in
      let (says, same) =
      subst (λ (o : View × Result (Unit {0}) RedoFault). ReplaysBlocks rec o.0 o.1 node reply now) here step in
      let next : AbstractStandby = after_record w rec s in (
        next,
        ap (λ (r : Reply). (r, next)) says,
        subst (λ (n : Standby). Represents w start n next) (sym same) (applied_is laws.none_below w start s node rec legal.view is e legal.redone),
      )

  -- scans are admitted
  admitted_is : is_admitted node ≡ admits s
  admitted_is =
      ap (λ (min : ℕ). nat_le min node.at.0 && not (is_some node.awaited) && is_ready node.transactions.known.mode) is.min
      ∙ ap (λ (at : ℕ). nat_le s.min at && not (is_some node.awaited) && is_ready node.transactions.known.mode) is.at
      ∙ ap (λ (a : Option Lsn). nat_le s.min (position_of s) && not (is_some a) && is_ready node.transactions.known.mode) is.awaited
      ∙ ap (λ (m : State). nat_le s.min (position_of s) && not (is_some s.awaited) && is_ready m) mode_is

  crowded_is : is_node_crowded node ≡ is_crowded s
  crowded_is =
      ap (λ (n : ℕ). nat_le most_scans n || nat_lt (2 ^ 63) node.next_id) (same_count w s.life node.transactions node.scans s.scans is.scans)
      ∙ ap (λ (id : ℕ). nat_le most_scans (length s.scans) || nat_lt (2 ^ 63) id) is.next_id

  -- a scan that is opened
  abbrev snapshot_xmin : ℕ
  snapshot_xmin = (take_of node.transactions.known).xmin

  ready_is : admits s ≡ true → node.transactions.known.mode ≡ Ready
  ready_is admitted = mode_is ∙ ready_when (state_in s) (and_parts _ _ admitted).1

  -- its snapshot's xmin is the least live id
  least_is : admits s ≡ true → IsLeastLive w s snapshot_xmin
  least_is admitted =
      laws.xmin (log_origin w).transactions s.life node.transactions (λ x. (refl, refl))
      (legal_log laws.logs w start good s.life is.stands).transactions is.transactions (ready_is admitted)

  abbrev scan_now : ℕ → AbstractScan
  scan_now table = record { id = s.next_id; table = table; opened = s.life; xmin = snapshot_xmin; given = 0; cause = None }

  new_is :
      (table count : ℕ) → table_of (locators w.tables) (file_of w.tables table) ≡ Some table → admits s ≡ true
      → is_gone (file_of w.tables table) s.life ≡ false → locks (log_origin w) (file_of w.tables table) s.life ≡ []
      → ((block : ℕ) → is_there (node.blocks table block) ≡ nat_lt block count)
      → StandsForScan w s.life node.transactions (new_scan table count node) (scan_now table)
  new_is table count described admitted there unlocked has =
      let o = log_origin w in
      let file = file_of w.tables table in
      let shows = table_shown laws.logs w start good s.life is.stands node.blocks table is.blocks described there in
      record {
        id = is.next_id;
        table = refl;
        described = described;
        later = [];
        opened = refl;
        was = node.transactions;
        along = is.transactions;
        ready = ready_is admitted;
        snapshot = refl;
        since = refl;
        xmin = refl;
        least = least_is admitted;
        there = there;
        unlocked = unlocked;
        blocks =
            one_count (λ block. is_there (node.blocks table block)) count (block_count o file s.life) has
            (λ block. seen_there o s.life _ (block_count o file s.life) block (node.blocks table block) (shows.shows block));
        cause = refl;
        free = λ none. All-nil (λ (rec : Rec). conflicts o file snapshot_xmin rec ≡ false);
        given = refl;
        inside = inl refl;
      }

  opened_is :
      (table count : ℕ) → StandsForScan w s.life node.transactions (new_scan table count node) (scan_now table)
      → Represents w start (with_new_scan table count node) (with_scan table snapshot_xmin s)
  opened_is table count new = record {
    begins = is.begins;
    stands = is.stands;
    tables = is.tables;
    told = is.told;
    at = is.at;
    prev = is.prev;
    min = is.min;
    awaited = is.awaited;
    blocks = is.blocks;
    transactions = is.transactions;
    scans = one_opened w s.life node.transactions node.scans s.scans (new_scan table count node) (scan_now table) new is.scans;
    next_id = ap (λ (id : ℕ). id + 1) is.next_id;
    held = is.held;
    gone = is.gone;
  }

  -- an opening leads to what the abstract standby replies, and to what it is then
  abbrev Opening : Reply → Standby → Reply × AbstractStandby → Type 0
  Opening reply now answer = LeadsTo w start (λ next. ◌≡◌ {A = Reply × AbstractStandby} (reply, next) answer) now

  stays : (reply : Reply) (now : Standby) (answer : Reply) → reply ≡ answer → now ≡ node → Opening reply now (answer, s)
  stays reply now answer says same = (s, ap (λ (r : Reply). (r, s)) says, subst (λ (n : Standby). Represents w start n s) (sym same) is)

  module _ (table : ℕ) (described : table_of (locators w.tables) (file_of w.tables table) ≡ Some table) where
    -- the table's lock, and since when it is gone
    lock_is : last_lock (locks (log_origin w) (file_of w.tables table) s.life) ≡ option_map as_held (lock_of node table)
    lock_is =
        last_is (log_origin w) (file_of w.tables table) s.life
        ∙ ap (λ (found : Option ℕ). option_map as_held (last_of w.tables.database (oid_with w.tables found) (locks_along s.life) None)) described
        ∙ sym (
        ap (λ (t : Description). option_map as_held (last_of t.database (oid_of t table) node.locks None)) is.tables
        ∙ ap (λ (held : List NodeLock). option_map as_held (last_of w.tables.database (oid_of w.tables table) held None)) is.held
        )

    since_is : gone_at (file_of w.tables table) s.life ≡ as_number (gone_since node table)
    since_is =
        sym (
        ap (λ (gone : List (Option Lsn)). as_number (get_or gone table None)) is.gone
        ∙ gone_is w.tables (file_of w.tables table) table described s.life
        )

    opens_unlocked :
        (answer : OpenedBy) (reply : Reply) (now : Standby) (lock : Option NodeLock) → admits s ≡ true
        → gone_at (file_of w.tables table) s.life ≡ None
        → last_lock (locks (log_origin w) (file_of w.tables table) s.life) ≡ option_map as_held lock
        → reply ≡ opening_reply answer → OpensUnlessLocked lock node table answer now
        → Opening reply now (opened_unless None (option_map as_held lock) table snapshot_xmin s)
    opens_unlocked answer reply now (Some held) admitted here locked says (gives, same) =
        stays reply now (Locked held.since.0 held.entry.xid.0) (says ∙ ap opening_reply gives) same
    opens_unlocked answer reply now None admitted here locked says (count, has, gives, same) = (
      with_scan table snapshot_xmin s,
      ap (λ (r : Reply). (r, with_scan table snapshot_xmin s))
          (says ∙ ap opening_reply gives ∙ ap (λ (id : ℕ). Opened id node.at.0) is.next_id ∙ ap (λ (at : ℕ). Opened s.next_id at) is.at),
      subst (λ (n : Standby). Represents w start n (with_scan table snapshot_xmin s)) (sym same)
          (opened_is table count
          (new_is table count described admitted (not_gone (file_of w.tables table) s.life here)
          (none_locked (locks (log_origin w) (file_of w.tables table) s.life) locked) has)),
    )

    opens_present :
        (answer : OpenedBy) (reply : Reply) (now : Standby) (gone : Option Lsn) → admits s ≡ true
        → gone_at (file_of w.tables table) s.life ≡ as_number gone
        → reply ≡ opening_reply answer → OpensUnlessGone gone node table answer now
        → Opening reply now
        (opened_unless (as_number gone) (last_lock (locks (log_origin w) (file_of w.tables table) s.life)) table snapshot_xmin s)
    opens_present answer reply now (Some lsn) admitted here says (gives, same) =
        stays reply now (Gone lsn.0) (says ∙ ap opening_reply gives) same
    opens_present answer reply now None admitted here says step =
        subst (λ (lock : Option HeldLock). Opening reply now (opened_unless None lock table snapshot_xmin s)) (sym lock_is)
        (opens_unlocked answer reply now (lock_of node table) admitted here lock_is says step)

    abbrev answer_here : Reply × AbstractStandby
    answer_here =
        opened_unless (gone_at (file_of w.tables table) s.life) (last_lock (locks (log_origin w) (file_of w.tables table) s.life)) table
        snapshot_xmin s

    opens_admitted :
        (answer : OpenedBy) (reply : Reply) (now : Standby) (admitted : Bool) → admits s ≡ admitted
        → reply ≡ opening_reply answer → OpensAdmitted admitted node table answer now
        → Opening reply now (if not admitted then (NotAdmitted (status_in s), s) else answer_here)
    opens_admitted answer reply now true e says step =
        subst (λ (gone : Option ℕ). Opening reply now (opened_unless gone (last_lock (locks (log_origin w) (file_of w.tables table) s.life)) table snapshot_xmin s))
        (sym since_is)
        (opens_present answer reply now (gone_since node table) e since_is says step)
    opens_admitted answer reply now false e says (gives, same) =
        stays reply now (NotAdmitted (status_in s)) (says ∙ ap opening_reply gives ∙ ap NotAdmitted status_is) same

    opens_unless :
        (answer : OpenedBy) (reply : Reply) (now : Standby) (crowded : Bool) → reply ≡ opening_reply answer
        → OpensUnlessCrowded crowded node table answer now
        → Opening reply now
        (if crowded then (TooMany, s) else if not (admits s) then (NotAdmitted (status_in s), s) else answer_here)
    opens_unless answer reply now true says (gives, same) = stays reply now TooMany (says ∙ ap opening_reply gives) same
    opens_unless answer reply now false says step =
        opens_admitted answer reply now (admits s) refl says
        (subst (λ (b : Bool). OpensAdmitted b node table answer now) admitted_is step)

  opens_table :
      (number : Option ℕ) (answer : OpenedBy) (reply : Reply) (now : Standby)
      → ((table : ℕ) → number ≡ Some table → table_of (locators w.tables) (file_of w.tables table) ≡ Some table)
      → reply ≡ opening_reply answer → OpensTable number node answer now → Opening reply now (opened w snapshot_xmin s number)
  opens_table None answer reply now described says (gives, same) = stays reply now NoTable (says ∙ ap opening_reply gives) same
  opens_table (Some table) answer reply now described says step =
      opens_unless table (described table refl) answer reply now (is_crowded s) says
      (subst (λ (b : Bool). OpensUnlessCrowded b node table answer now) crowded_is step)

  pub asks_status : (reply : Reply) (now : Standby) → NodeStep w.told.byte AsksStatus node reply now → LeadsTo w start (Step w AsksStatus s reply) now
  asks_status reply now (says, same) =
      (s, (says ∙ ap StandsSo status_is, refl), subst (λ (n : Standby). Represents w start n s) (sym same) is)

  pub replays_one : (reply : Reply) (now : Standby) → NodeStep w.told.byte ReplayOne node reply now → LeadsTo w start (Step w ReplayOne s reply) now
  replays_one reply now step =
      let (next, leads, stands) =
      replays reply now (next_of w.told (described_in w.tables) start s.life) refl
      (subst (λ (found : Result Rec Stop). ReplaysOne found node reply now) found_is step) in
      (next, leads ∙ ap (λ (from : ℕ). replayed w s (next_of w.told (described_in w.tables) from s.life)) (sym is.begins), stands)

  pub opens_scan :
      (text name : List ℕ) (reply : Reply) (now : Standby) → schema.Answers text (Ok w.tables) → NodeStep w.told.byte (Open name) node reply now
      → LeadsTo w start (Step w (Open name) s reply) now
  opens_scan text name reply now answers (answer, opens, says) =
      let (next, leads, stands) =
      opens_table (number_named w.tables name) answer reply now
      (λ table named. file_is_found laws.apart text w.tables name table answers named) says
      (subst (λ (t : Description). OpensTable (number_named t name) node answer now) is.tables opens) in
      (next, (snapshot_xmin, least_is, leads), stands)

  pub closes_scan :
      (id : ℕ) (reply : Reply) (now : Standby) → NodeStep w.told.byte (Close id) node reply now → LeadsTo w start (Step w (Close id) s reply) now
  closes_scan id reply now (says, same) =
      let there = both_found w s.life node.transactions id (scan_with id node.scans) (scan_in id s.scans) (are_found w s.life node.transactions id node.scans s.scans is.scans) in (
        after_close id s,
        (says ∙ ap (λ (b : Bool). if b then Closed id else NoScan) there, refl),
        subst (λ (n : Standby). Represents w start n (after_close id s)) (sym same)
            (with_scans w start node s (without id node.scans) (without_scan id s.scans) is
            (are_without w s.life node.transactions id node.scans s.scans is.scans)),
      )
