-- The calls of a node as steps of the node without what it keeps of the log.
use Rattle.std.proofs.Common.{◌≡◌, ℕ, suc, ◌+◌, ◌<◌, Bool, true, false, List, Option, None, Some, Result, Ok, Err, refl, ap, sym, ◌∙◌, subst, arith, add-one, if◌then◌else◌}
use Rattle.wal_archive.specs.ArchiveLog.{archived_bytes}
use Rattle.typed_records.specs.declared.types.Rec.{Rec}
use Rattle.page_store.specs.Seen.{View}
use Rattle.heap_redo.specs.declared.fault.RedoFault.{RedoFault}
use Rattle.heap_redo.specs.Redone.{redone_record}
use Rattle.pg_types.specs.declared.names.Lsn.{Lsn}
use Rattle.table_schema.specs.Description.{locators}
use Rattle.table_schema.specs.Tables.{number_named}
use Rattle.recovery_conflict.specs.declared.locks.HeldLock.{HeldLock}
use Rattle.standby_model.specs.Log as log
use Rattle.standby_model.specs.Log.{Stop, record_at}
use Rattle.standby_core.specs.declared.types.Replayed.{Replayed}
use Rattle.standby_core.specs.declared.types.Replayed.TheVariants as replayed
use Rattle.standby_core.specs.declared.types.Refusal.{Refusal}
use Rattle.standby_core.specs.declared.scans.Opened.{Opened}
use Rattle.standby_core.specs.Standby.{Standby, described_to, node_status, told_to}
use Rattle.standby_core.specs.Replay.{IsApplied, IsRefusedAs, by_blocks, by_record, Replays, StaysUnlessApplied}
use Rattle.standby_core.specs.Scans.{Opens, OpensAdmitted, OpensTable, OpensUnlessCrowded, OpensUnlessGone, OpensUnlessLocked, gone_since, is_admitted, is_crowded, lock_of}
use Rattle.standby_core.specs.View.{ReplaysTold}
use Rattle.session_model.specs.Events as event
use Rattle.session_model.specs.Events.{Reply, AsksStatus, ReplayOne, Applied as IsAppliedAt, is_applied, is_trouble, Stands}
use Rattle.session_model.specs.Answers.{Applies, Replayed as ReplayedSome, StopsAt}
use Rattle.session_model.specs.NodeSteps.{NodeStep, ReplaysBlocks, ReplaysOne, bare, replay_reply}
use Rattle.standby_session.specs.Answering.{WhereLogTold, ReplaysTold as ReplaysAllTold}

-- what redo of a record leaves
replays_blocks :
    (rec : Rec) (r : View × Result (Unit {0}) RedoFault) (blocks : View) (done : Result (Unit {0}) RedoFault) (old : Standby) (reply : Reply) (new : Standby)
    → r ≡ (blocks, done) → ReplaysBlocks rec blocks done old reply new → ReplaysBlocks rec r.0 r.1 old reply new
replays_blocks rec r blocks done old reply new e p =
    subst (λ (x : View × Result (Unit {0}) RedoFault). ReplaysBlocks rec x.0 x.1 old reply new) (sym e) p

-- where a record stands at the node's position
by_found :
    (found : Result Rec Stop) (what : Result Rec Stop) (old : Standby) (reply : Reply) (new : Standby) → found ≡ what
    → ReplaysOne what old reply new → ReplaysOne found old reply new
by_found found what old reply new e p = subst (λ (f : Result Rec Stop). ReplaysOne f old reply new) (sym e) p

-- what is kept of the log, and so where a record is refused
refused_bare :
    (old new : Standby) (found : Result Rec Stop) (what : Refusal) → new ≡ record old { blocks = new.blocks; kept = new.kept }
    → IsRefusedAs old new found what → ReplaysOne found (bare old) (event.Refused old.at.0 what) (bare new)
refused_bare old new found what stays (by_record why e same blocks) =
    by_found found (Err (log.Refused why)) (bare old) (event.Refused old.at.0 what) (bare new) e
    (ap (λ (w : Refusal). event.Refused old.at.0 w) (sym same), ap bare stays ∙ ap (λ (b : View). record (bare old) { blocks = b }) blocks)
refused_bare old new found what stays (by_blocks rec fault e blocks same) =
    by_found found (Ok rec) (bare old) (event.Refused old.at.0 what) (bare new) e
    (replays_blocks rec (redone_record rec (locators old.tables) old.blocks) new.blocks (Err fault) (bare old)
    (event.Refused old.at.0 what) (bare new) blocks (what, same, refl, ap bare stays))

applied_bare :
    (old new : Standby) (found : Result Rec Stop) (rec : Rec) → found ≡ Ok rec → IsApplied rec old new
    → ReplaysOne found (bare old) (event.Applied rec.end.0) (bare new)
applied_bare old new found rec e is =
    by_found found (Ok rec) (bare old) (event.Applied rec.end.0) (bare new) e
    (replays_blocks rec (redone_record rec (locators old.tables) old.blocks) new.blocks (Ok tt) (bare old)
    (event.Applied rec.end.0) (bare new) is.blocks (refl, ap bare is.others))

one_bare :
    (old new : Standby) (found : Result Rec Stop) (last : Replayed) → StaysUnlessApplied (Ok last) old new → Replays (Ok last) old new found
    → ReplaysOne found (bare old) (replay_reply last) (bare new)
one_bare old new found (replayed.Applied start at cancelled) stays (rec, e, is, starts, ends, count) =
    subst (λ (l : Lsn). ReplaysOne found (bare old) (event.Applied l.0) (bare new)) ends (applied_bare old new found rec e is)
one_bare old new found (replayed.AtEnd lsn why) stays (e, at, blocks) =
    by_found found (Err (log.Ended why)) (bare old) (event.AtEnd lsn.0 why) (bare new) e
    (ap (λ (l : Lsn). event.AtEnd l.0 why) at, ap bare stays ∙ ap (λ (b : View). record (bare old) { blocks = b }) blocks)
one_bare old new found (replayed.Refused lsn what) stays (is, at) =
    subst (λ (l : Lsn). ReplaysOne found (bare old) (event.Refused l.0 what) (bare new)) (sym at) (refused_bare old new found what stays is)

-- a replay is a step
pub one_step :
    (byte : ℕ → Option ℕ) (old new : Standby) (last : Replayed) → StaysUnlessApplied (Ok last) old new
    → Replays (Ok last) old new (record_at (told_to old byte) (described_to old) old.at.0 old.prev)
    → NodeStep byte ReplayOne (bare old) (replay_reply last) (bare new)
one_step byte old new last stays p =
    one_bare old new (record_at (told_to old byte) (described_to old) old.at.0 old.prev) last stays p

-- so many records were applied, where the log is told
abbrev pub AppliedTold : Option (ℕ → Option ℕ) → ℕ → Standby → Standby → Type 0
AppliedTold bytes count old new = WhereLogTold bytes old new (λ byte. Applies (NodeStep byte) count (bare old) (bare new))

pub applied_none : (bytes : Option (ℕ → Option ℕ)) (node : Standby) → AppliedTold bytes 0 node node
unfolding Applies
applied_none None node = tt
applied_none (Some byte) node = λ kept. (kept, refl)

one_more :
    (byte : ℕ → Option ℕ) (count at : ℕ) (old mid new : Standby) → Applies (NodeStep byte) count (bare old) (bare mid)
    → NodeStep byte ReplayOne (bare mid) (event.Applied at) (bare new) → Applies (NodeStep byte) (suc count) (bare old) (bare new)
unfolding Applies
one_more byte count at old mid new p q = (bare mid, p, (at, q))

more_by :
    (byte : ℕ → Option ℕ) (count : ℕ) (old mid new : Standby) (last : Replayed) → is_applied (replay_reply last) ≡ true
    → Applies (NodeStep byte) count (bare old) (bare mid) → NodeStep byte ReplayOne (bare mid) (replay_reply last) (bare new)
    → Applies (NodeStep byte) (suc count) (bare old) (bare new)
more_by byte count old mid new (replayed.Applied start at cancelled) is p q = one_more byte count at.0 old mid new p q
more_by byte count old mid new (replayed.AtEnd lsn why) is p q = absurd (cc)
more_by byte count old mid new (replayed.Refused lsn what) is p q = absurd (cc)

pub applied_more :
    (bytes later : Option (ℕ → Option ℕ)) (count : ℕ) (old mid new : Standby) (last : Replayed) → later ≡ bytes
    → is_applied (replay_reply last) ≡ true → AppliedTold bytes count old mid → StaysUnlessApplied (Ok last) mid new
    → ReplaysTold later (Ok last) mid new → AppliedTold bytes (count + 1) old new
applied_more bytes later count old mid new last e is p stays q =
    by bytes p (subst (λ (b : Option (ℕ → Option ℕ)). ReplaysTold b (Ok last) mid new) e q)
  where
    by : (b : Option (ℕ → Option ℕ)) → AppliedTold b count old mid → ReplaysTold b (Ok last) mid new → AppliedTold b (count + 1) old new
    by None p q = tt
    by (Some byte) p q = λ kept.
        let one = p kept in
        let two = q one.0 in (
          two.0,
          subst (λ (n : ℕ). Applies (NodeStep byte) n (bare old) (bare new)) (sym (add-one count))
              (more_by byte count old mid new last is one.1 (one_step byte mid new last stays two.1)),
        )

-- the last replay
counted_by : (b : Bool) (before count applied : ℕ) → StopsAt b before count → applied ≡ (if b then count else before)
    → applied ≡ (if b then suc before else before)
counted_by true before count applied stops e = e ∙ sym stops
counted_by false before count applied stops e = e

pub replays_up_to :
    (bytes later : Option (ℕ → Option ℕ)) (before count applied : ℕ) (old mid new : Standby) (last : Replayed) → later ≡ bytes
    → StopsAt (is_applied (replay_reply last)) before count
    → applied ≡ (if is_applied (replay_reply last) then count else before)
    → AppliedTold bytes before old mid → StaysUnlessApplied (Ok last) mid new → ReplaysTold later (Ok last) mid new
    → ReplaysAllTold bytes count old new (Ok (applied, last))
replays_up_to bytes later before count applied old mid new last e stops counts p stays q =
    by bytes p (subst (λ (b : Option (ℕ → Option ℕ)). ReplaysTold b (Ok last) mid new) e q)
  where
    by : (b : Option (ℕ → Option ℕ)) → AppliedTold b before old mid → ReplaysTold b (Ok last) mid new
        → ReplaysAllTold b count old new (Ok (applied, last))
    by None p q = tt
    by (Some byte) p q = λ kept.
        let one = p kept in
        let two = q one.0 in (
          two.0,
          record {
            before = before;
            mid = bare mid;
            last = replay_reply last;
            applies = one.1;
            replays = one_step byte mid new last stays two.1;
            stops = stops;
            says = ap (λ (n : ℕ). ReplayedSome n (replay_reply last)) (counted_by (is_applied (replay_reply last)) before count applied stops counts);
          },
        )

-- one that applied its record or not, and was the last that was asked for
pub stops_last : (b : Bool) (before count : ℕ) → before + 1 ≡ count → StopsAt b before count
stops_last true before count e = sym (add-one before) ∙ e
stops_last false before count e = omega arith

-- one that did not
pub stops_early : (b : Bool) (before count : ℕ) → b ≡ false → before < count → StopsAt b before count
stops_early true before count is lt = absurd (cc)
stops_early false before count is lt = lt

pub counts_early : (b : Bool) (before count : ℕ) → b ≡ false → before ≡ (if b then count else before)
counts_early true before count is = absurd (cc)
counts_early false before count is = refl

-- the same log of a node at another time
pub same_log :
    (new then_ : Option (List ℕ → Option (List ℕ))) (size now : ℕ) → now ≡ size → archived_bytes new size ≡ archived_bytes then_ size
    → archived_bytes new now ≡ archived_bytes then_ size
same_log new then_ size now e p = ap (λ (n : ℕ). archived_bytes new n) e ∙ p

-- an opening of a node is one of the node without what it keeps
opens_unlocked :
    (lock : Option HeldLock) (old new : Standby) (table : ℕ) (opened : Opened) → OpensUnlessLocked lock old table opened new
    → OpensUnlessLocked lock (bare old) table opened (bare new)
opens_unlocked (Some held) old new table opened (says, now) = (says, ap bare now)
opens_unlocked None old new table opened (count, blocks, says, now) = (count, blocks, says, ap bare now)

opens_there :
    (gone : Option Lsn) (old new : Standby) (table : ℕ) (opened : Opened) → OpensUnlessGone gone old table opened new
    → OpensUnlessGone gone (bare old) table opened (bare new)
opens_there (Some lsn) old new table opened (says, now) = (says, ap bare now)
opens_there None old new table opened p = opens_unlocked (lock_of old table) old new table opened p

opens_by :
    (admitted : Bool) (old new : Standby) (table : ℕ) (opened : Opened) → OpensAdmitted admitted old table opened new
    → OpensAdmitted admitted (bare old) table opened (bare new)
unfolding node_status
opens_by true old new table opened p = opens_there (gone_since old table) old new table opened p
opens_by false old new table opened (says, now) = (says, ap bare now)

opens_unless :
    (crowded : Bool) (old new : Standby) (table : ℕ) (opened : Opened) → OpensUnlessCrowded crowded old table opened new
    → OpensUnlessCrowded crowded (bare old) table opened (bare new)
opens_unless true old new table opened (says, now) = (says, ap bare now)
opens_unless false old new table opened p = opens_by (is_admitted old) old new table opened p

opens_table :
    (number : Option ℕ) (old new : Standby) (opened : Opened) → OpensTable number old opened new → OpensTable number (bare old) opened (bare new)
opens_table None old new opened (says, now) = (says, ap bare now)
opens_table (Some table) old new opened p = opens_unless (is_crowded old) old new table opened p

pub opens_bare : (name : List ℕ) (old new : Standby) (opened : Opened) → Opens name old opened new → Opens name (bare old) opened (bare new)
opens_bare name old new opened p = opens_table (number_named old.tables name) old new opened p

-- what is kept of the log, and the size of its segments, stay
abbrev pub Same : Standby → Standby → Type 0
Same old new = (new.kept ≡ old.kept) × (new.segsize ≡ old.segsize)

same_unlocked : (lock : Option HeldLock) (old new : Standby) (table : ℕ) (opened : Opened) → OpensUnlessLocked lock old table opened new → Same old new
same_unlocked (Some held) old new table opened (says, now) = (ap (λ (n : Standby). n.kept) now, ap (λ (n : Standby). n.segsize) now)
same_unlocked None old new table opened (count, blocks, says, now) = (ap (λ (n : Standby). n.kept) now, ap (λ (n : Standby). n.segsize) now)

same_there : (gone : Option Lsn) (old new : Standby) (table : ℕ) (opened : Opened) → OpensUnlessGone gone old table opened new → Same old new
same_there (Some lsn) old new table opened (says, now) = (ap (λ (n : Standby). n.kept) now, ap (λ (n : Standby). n.segsize) now)
same_there None old new table opened p = same_unlocked (lock_of old table) old new table opened p

same_admitted : (admitted : Bool) (old new : Standby) (table : ℕ) (opened : Opened) → OpensAdmitted admitted old table opened new → Same old new
same_admitted true old new table opened p = same_there (gone_since old table) old new table opened p
same_admitted false old new table opened (says, now) = (ap (λ (n : Standby). n.kept) now, ap (λ (n : Standby). n.segsize) now)

same_unless : (crowded : Bool) (old new : Standby) (table : ℕ) (opened : Opened) → OpensUnlessCrowded crowded old table opened new → Same old new
same_unless true old new table opened (says, now) = (ap (λ (n : Standby). n.kept) now, ap (λ (n : Standby). n.segsize) now)
same_unless false old new table opened p = same_admitted (is_admitted old) old new table opened p

same_table : (number : Option ℕ) (old new : Standby) (opened : Opened) → OpensTable number old opened new → Same old new
same_table None old new opened (says, now) = (ap (λ (n : Standby). n.kept) now, ap (λ (n : Standby). n.segsize) now)
same_table (Some table) old new opened p = same_unless (is_crowded old) old new table opened p

pub opens_same : (name : List ℕ) (old new : Standby) (opened : Opened) → Opens name old opened new → Same old new
opens_same name old new opened p = same_table (number_named old.tables name) old new opened p
