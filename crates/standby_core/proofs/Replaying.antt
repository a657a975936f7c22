-- The steps of a replay put together.
use Rattle.std.proofs.Common.{◌≡◌, inl, inr, ℕ, List, Option, Some, None, Result, Ok, Err, refl, sym, ◌∙◌, ap, subst}
use Rattle.std.specs.Prelude.{IfSome}
use Rattle.pg_types.specs.declared.names.Locator.{Locator}
use Rattle.pg_types.specs.declared.names.Lsn.{Lsn}
use Rattle.wal_record.specs.declared.types.PrevRule.TheVariants.{Is}
use Rattle.wal_record.specs.Decoded.{decoded}
use Rattle.wal_record.specs.Record.{Record}
use Rattle.wal_reader.specs.declared.types.EndWhy.{EndWhy}
use Rattle.wal_reader.specs.declared.types.Next.{Next}
use Rattle.wal_reader.specs.declared.types.Next.TheVariants as next
use Rattle.wal_reader.specs.declared.types.ReadFault.{ReadFault}
use Rattle.wal_reader.specs.declared.types.ReadFault.TheVariants as fault
use Rattle.wal_reader.specs.declared.types.NoRecord.{NoRecord}
use Rattle.wal_reader.specs.declared.types.NoRecord.TheVariants as stop
use Rattle.wal_reader.specs.Calls.{WhereTold}
use Rattle.wal_reader.specs.Kept.{AreTold, Kept}
use Rattle.wal_reader.specs.Standing.{Answers, BearsPosition, Standing, record_given}
use Rattle.wal_reader.specs.Step.{Entry, step}
use Rattle.wal_reader.specs.Told.{Told}
use Rattle.typed_records.specs.declared.types.BodyFault.{BodyFault}
use Rattle.typed_records.specs.declared.types.BodyFault.TheVariants as body
use Rattle.typed_records.specs.declared.types.Rec.{Rec}
use Rattle.wal_bodies.specs.Typed.{typed}
use Rattle.heap_redo.specs.declared.fault.RedoFault.{RedoFault}
use Rattle.heap_redo.specs.declared.fault.RedoFault.TheVariants as redo
use Rattle.page_store.specs.Seen.{View}
use Rattle.heap_redo.specs.Redone.{Outcome, Stands, redone_record}
use Rattle.xact_redo.specs.State.{TransactionState, state_after}
use Rattle.recovery_conflict.specs.declared.locks.HeldLock.{HeldLock}
use Rattle.standby_core.specs.declared.scans.NodeScan.{NodeScan}
use Rattle.table_schema.specs.Description.{locators}
use Rattle.standby_core.specs.declared.node.Node.{Node}
use Rattle.standby_core.specs.declared.types.NodeFault.{NodeFault}
use Rattle.standby_core.specs.declared.types.NodeFault.TheVariants.{Archive, Memory}
use Rattle.standby_core.specs.declared.types.Replayed.{Replayed}
use Rattle.standby_core.specs.declared.types.Replayed.TheVariants.{Applied, AtEnd, Refused}
use Rattle.standby_core.specs.declared.types.Refusal.{Refusal as What}
use Rattle.standby_model.specs.Log as log
use Rattle.standby_model.specs.Log.{Stop as LogStop, record_at, stop_by, typed_of, unless_refused}
use Rattle.recovery_conflict.specs.Held.{locks_after}
use Rattle.standby_core.specs.Conflicts.{cancelled_by, gone_after, newly_cancelled}
use Rattle.standby_core.specs.Horizon.{parents_kept}
use Rattle.standby_core.specs.declared.types.Passed.{Passed}
use Rattle.standby_core.specs.Standby.{Standby, described_to, told_to}
use Rattle.standby_core.specs.declared.types.Stopped.{Stopped}
use Rattle.standby_core.specs.declared.types.Stopped.TheVariants as stopped
use Rattle.standby_core.specs.Replay.{IsApplied, IsRefusedAs, by_blocks, by_record, Replays, ReplaysSome, awaited_after, redo_refusal}
use Rattle.standby_core.specs.Steps.{GivenRedone, GivenReplays, Gives, IsGiven, IsRedone, Redone, TypedRedone, body_refusal, stopped_by, unread}
use Rattle.standby_core.specs.View.{ReplaysTold, standby}
use Rattle.standby_core.proofs.Refusing.{redone_not_memory}

-- one position
pub same_lsn : (a b : Lsn) → a.0 ≡ b.0 → a ≡ b
same_lsn a b e = let made : ℕ → Lsn = λ n. record { 0 = n } in ap made e

-- the record that was given
pub given_is : (reader : Standing) (start end : Lsn) (found : Record) → Gives reader start end
    → IfSome reader.given (λ given. record_given reader given ≡ Ok found) → IsGiven reader start found
given_is reader start end found gives is = subst (λ given. IfSome given (λ at. record_given reader at ≡ Ok found)) gives is

-- the position, its record, and what is due there
abbrev pub due_at : Standby → Lsn → Lsn → Record → Result Rec LogStop
due_at node start end found = typed_of (described_to node) (Ok (record { start = start.0; end = end.0; record_ = found }))

-- a record that has no typed form is refused
pub body_refused : (start end : Lsn) (node : Standby) (found : Record) (fault : BodyFault)
    → Err fault ≡ typed found start end node.tables.database (locators node.tables)
    → IsRefusedAs node node (due_at node start end found) (body_refusal fault)
body_refused start end node found body.Length e = by_record log.Length (ap unless_refused (sym e)) refl refl
body_refused start end node found (body.Unsupported what) e = by_record (log.Unsupported what) (ap unless_refused (sym e)) refl refl

-- where redo refuses a record, it is refused at its blocks
pub blocks_stopped : (rec : Rec) (known : List Locator) (old new : View) (fault : RedoFault)
    → Stands rec known old new (Err fault) → TypedRedone rec known (Err (stopped_by (redo_refusal fault))) old new
blocks_stopped rec known old new (redo.PageMissing place) (inl h) = let e = h.0 in cc
blocks_stopped rec known old new (redo.PageMissing place) (inr e) = (redo.PageMissing place, e, refl)
blocks_stopped rec known old new (redo.NoTuple place) (inl h) = let e = h.0 in cc
blocks_stopped rec known old new (redo.NoTuple place) (inr e) = (redo.NoTuple place, e, refl)
blocks_stopped rec known old new (redo.PageFull place) (inl h) = let e = h.0 in cc
blocks_stopped rec known old new (redo.PageFull place) (inr e) = (redo.PageFull place, e, refl)
blocks_stopped rec known old new (redo.BadPage place) (inl h) = let e = h.0 in cc
blocks_stopped rec known old new (redo.BadPage place) (inr e) = (redo.BadPage place, e, refl)
blocks_stopped rec known old new redo.Memory (inl h) = inr h.1
blocks_stopped rec known old new redo.Memory (inr e) = absurd (redone_not_memory rec known old new e)

-- where a record stops, so does the record that was found
pub stops_found : (start end : Lsn) (rec : Rec) (old new : Standby) (found : Record) (why : Stopped)
    → Ok rec ≡ typed found start end old.tables.database (locators old.tables)
    → TypedRedone rec (locators old.tables) (Err why) old.blocks new.blocks
    → new ≡ record old { blocks = new.blocks }
    → Redone start end (Err why) old new (due_at old start end found)
stops_found start end rec old new found (stopped.Refused what) e h same = (by_blocks rec h.0 (ap unless_refused (sym e)) h.1 h.2, same)
stops_found start end rec old new found stopped.Memory e (inl h) same = (inl h, same)
stops_found start end rec old new found stopped.Memory e (inr ran) same = (inr (rec, ap unless_refused (sym e), ran), same)

-- a record was redone where each of the node's parts is as after it
pub redone_as :
    (rec : Rec) (old : Standby) (blocks : View) (applied transactions : TransactionState) (scans : List NodeScan) (next : ℕ) (locks : List HeldLock)
    (known : List Locator) (gone : List (Option Lsn)) (passed : Passed) → redone_record rec (locators old.tables) old.blocks ≡ (blocks, Ok tt)
    → applied ≡ state_after rec old.transactions → transactions ≡ parents_kept rec old.scans applied
    → scans ≡ cancelled_by rec old.tables old.scans → next ≡ old.next_id
    → locks ≡ locks_after rec old.locks → known ≡ locators old.tables → gone ≡ gone_after rec known old.gone
    → passed.awaited ≡ awaited_after rec.kind old.awaited → passed.cancelled ≡ newly_cancelled rec old.tables old.scans
    → IsRedone rec passed old
    (record old { blocks = blocks; transactions = transactions; scans = scans; next_id = next; locks = locks; gone = gone })
redone_as rec old blocks applied transactions scans next locks known gone passed changed known_so forgotten cancelled ids held files dropped awaits counts =
    let made : TransactionState → List NodeScan → ℕ → List HeldLock → List (Option Lsn) → Standby = λ t s n l g.
    record old { blocks = blocks; transactions = t; scans = s; next_id = n; locks = l; gone = g } in
    let state = parents_kept rec old.scans (state_after rec old.transactions) in
    let left = cancelled_by rec old.tables old.scans in
    record {
      blocks = changed;
      awaited_is = awaits;
      cancelled_is = counts;
      others =
          ap (λ t. made t scans next locks gone) (forgotten ∙ ap (parents_kept rec old.scans) known_so)
          ∙ ap (λ s. made state s next locks gone) cancelled
          ∙ ap (λ n. made state left n locks gone) ids
          ∙ ap (λ l. made state left old.next_id l gone) held
          ∙ ap (made state left old.next_id (locks_after rec old.locks)) (dropped ∙ ap (λ k. gone_after rec k old.gone) files);
    }

-- where the record that was given was applied, or stopped, it is replayed
pub given_passed : (reader : Standing) (start end : Lsn) (passed : Passed) (old mid new : Standby)
    → GivenRedone reader start end (Ok passed) old mid → new ≡ record mid { at = end; prev = Is start; awaited = passed.awaited }
    → GivenReplays reader start end (Ok (Applied start end passed.cancelled)) old new
given_passed reader start end passed old mid new h moved =
    let r = h.redone in
    record {
      found = h.found;
      given = h.given;
      replays = (r.0, r.1, applied r.0 r.2 r.3 r.4, r.3, r.4, r.2.cancelled_is);
    }
  where
    applied : (rec : Rec) → IsRedone rec passed old mid → rec.start ≡ start → rec.end ≡ end → IsApplied rec old new
    applied rec is a b =
        let e = is.others in
        let blocks_same : new.blocks ≡ mid.blocks = ap (λ (node : Standby). node.blocks) moved in
        let kept_same : new.kept ≡ old.kept = ap (λ (node : Standby). node.kept) moved ∙ ap (λ (node : Standby). node.kept) e in
        let made : Lsn → Lsn → Option Lsn → View → Kept → Standby = λ s t w b k.
        record old {
          at = t;
          prev = Is s;
          awaited = w;
          blocks = b;
          transactions = parents_kept rec old.scans (state_after rec old.transactions);
          kept = k;
          scans = cancelled_by rec old.tables old.scans;
          locks = locks_after rec old.locks;
          gone = gone_after rec (locators old.tables) old.gone;
        } in
        let same = ap (λ s. made s end passed.awaited mid.blocks old.kept) (sym a)
        ∙ ap (λ t. made rec.start t passed.awaited mid.blocks old.kept) (sym b)
        ∙ ap (λ w. made rec.start rec.end w mid.blocks old.kept) is.awaited_is
        ∙ ap (λ b. made rec.start rec.end (awaited_after rec.kind old.awaited) b old.kept) (sym blocks_same)
        ∙ ap (λ k. made rec.start rec.end (awaited_after rec.kind old.awaited) new.blocks k) (sym kept_same) in
        record {
          blocks = is.blocks ∙ ap (λ (view : View). let o : Outcome = (view, Ok tt) in o) (sym (ap (λ (node : Standby). node.blocks) moved));
          others = moved ∙ ap (λ (node : Standby). let n : Standby = record node { at = end; prev = Is start; awaited = passed.awaited } in n) e ∙ same;
        }

pub given_stopped : (reader : Standing) (start end : Lsn) (what : What) (old new : Standby)
    → GivenRedone reader start end (Err (stopped.Refused what)) old new → (at : Lsn) → at ≡ old.at
    → GivenReplays reader start end (Ok (Refused at what)) old new
given_stopped reader start end what old new h at is = record { found = h.found; given = h.given; replays = (h.redone.0, is) }

pub given_out : (reader : Standing) (start end : Lsn) (old new : Standby)
    → GivenRedone reader start end (Err stopped.Memory) old new → GivenReplays reader start end (Err Memory) old new
given_out reader start end old new h = record { found = h.found; given = h.given; replays = h.redone.0 }

-- what is kept of the log is no part of what a replay does
refused_moved : (old new : Standby) (kept : Kept) (found : Result Rec LogStop) (what : What)
    → IsRefusedAs (record old { kept = kept }) new found what → IsRefusedAs old new found what
refused_moved old new kept found what (by_record why e f g) = by_record why e f g
refused_moved old new kept found what (by_blocks rec fault due e f) = by_blocks rec fault due e f

replays_moved : (old new : Standby) (kept : Kept) (found : Result Rec LogStop) (result : Result Replayed NodeFault)
    → Replays result (record old { kept = kept }) new found → Replays result old new found
replays_moved old new kept found (Ok (Applied s a n)) h =
    (h.0, h.1, record { blocks = h.2.blocks; others = h.2.others }, h.3, h.4, h.5)
replays_moved old new kept found (Ok (AtEnd lsn why)) h = h
replays_moved old new kept found (Ok (Refused lsn what)) h = (refused_moved old new kept found what h.0, h.1)
replays_moved old new kept found (Err Archive) h = h
replays_moved old new kept found (Err Memory) h = h

-- the log as it is told to the reader is the one that is told to the node
same_told : (n : Node) (byte : ℕ → Option ℕ)
    → let reads : Told = record { byte = byte; owner = λ at. 1; system = n.reader.source.system; segsize = n.reader.source.segsize } in
    reads ≡ told_to (standby n) byte
unfolding standby
same_told n byte =
    let made : ℕ → Told = λ size. record { byte = byte; owner = λ at. 1; system = n.reader.source.system; segsize = size } in ap made n.same_size

-- what the reader says where the log's bytes are told
abbrev pub Reads : Option (ℕ → Option ℕ) → Node → Node → Result Next ReadFault → Type 0
Reads told n m answer =
    WhereTold told (λ at. 1) n.reader.source m.reader.source
    (λ t. Answers answer n.reader.at (λ s. decoded m.reader.source.text s n.reader.prev) (step t n.reader.at.0 n.reader.prev))

-- where a record is read and replayed, the record at the node's position is
pub record_replayed :
    (told : Option (ℕ → Option ℕ)) (n m : Node) (new : Standby) (start end : Lsn) (result : Result Replayed NodeFault)
    → Reads told n m (Ok (next.Record start end)) → standby m ≡ record (standby n) { kept = (standby m).kept }
    → m.reader.prev ≡ n.reader.prev → GivenReplays m.reader start end result (standby m) new → new.kept ≡ (standby m).kept
    → ReplaysTold told result (standby n) new
unfolding standby
record_replayed None n m new start end result reads others link replays kept = tt
record_replayed (Some byte) n m new start end result reads others link replays kept =
    λ told. let said = reads told in (subst (AreTold byte) (sym kept) said.0, by said.1)
  where
    by : Answers (Ok (next.Record start end)) n.reader.at (λ s. decoded m.reader.source.text s n.reader.prev)
        (step (record { byte = byte; owner = λ at. 1; system = n.reader.source.system; segsize = n.reader.source.segsize }) n.reader.at.0 n.reader.prev)
        → Replays result (standby n) new (record_at (told_to (standby n) byte) (described_to (standby n)) n.reader.at.0 n.reader.prev)
    by h =
        let there : decoded m.reader.source.text start.0 n.reader.prev ≡ Ok replays.found =
        subst (λ p. decoded m.reader.source.text start.0 p ≡ Ok replays.found) link replays.given in
        let one : h.0 ≡ replays.found = let a = h.1 in cc in
        let made : Record → Entry = λ r. record { start = start.0; end = end.0; record_ = r } in
        let stands : step (told_to (standby n) byte) n.reader.at.0 n.reader.prev ≡ Ok (made replays.found) =
        ap (λ t. step t n.reader.at.0 n.reader.prev) (sym (same_told n byte)) ∙ h.2 ∙ ap (λ r. Ok (made r)) one in
        let due : record_at (told_to (standby n) byte) (described_to (standby n)) n.reader.at.0 n.reader.prev
        ≡ typed_of (described_to (standby n)) (Ok (made replays.found)) = ap (typed_of (described_to (standby n))) stands in
        subst (Replays result (standby n) new) (sym due)
        (replays_moved (standby n) new (standby m).kept (typed_of (described_to (standby n)) (Ok (made replays.found))) result
        (subst (λ node. Replays result node new (typed_of (described_to node) (Ok (made replays.found)))) others replays.replays))

-- where the reader has no answer, the node's is that
pub refusal_replayed :
    (told : Option (ℕ → Option ℕ)) (n m : Node) (found : ReadFault)
    → Reads told n m (Err found) → standby m ≡ record (standby n) { kept = (standby m).kept } → ReplaysTold told (unread found) (standby n) (standby m)
unfolding standby
refusal_replayed None n m found reads others = tt
refusal_replayed (Some byte) n m found reads others = λ told. let said = reads told in (said.0, by found said.1)
  where
    same : (standby m).blocks ≡ (standby n).blocks
    same = ap (λ (s : Standby). s.blocks) others

    stops_as : (why : NoRecord)
        → step (record { byte = byte; owner = λ at. 1; system = n.reader.source.system; segsize = n.reader.source.segsize }) n.reader.at.0 n.reader.prev ≡ Err why
        → record_at (told_to (standby n) byte) (described_to (standby n)) n.reader.at.0 n.reader.prev ≡ Err (stop_by why)
    stops_as why e =
        ap (λ t. typed_of (described_to (standby n)) (step t n.reader.at.0 n.reader.prev)) (sym (same_told n byte))
        ∙ ap (typed_of (described_to (standby n))) e

    by : (f : ReadFault) → Answers (Err f) n.reader.at (λ s. decoded m.reader.source.text s n.reader.prev)
        (step (record { byte = byte; owner = λ at. 1; system = n.reader.source.system; segsize = n.reader.source.segsize }) n.reader.at.0 n.reader.prev)
        → Replays (unread f) (standby n) (standby m)
        (record_at (told_to (standby n) byte) (described_to (standby n)) n.reader.at.0 n.reader.prev)
    by (fault.Compressed lsn) h = (by_record log.Compressed (stops_as stop.Compressed h.0) refl same, h.1)
    by (fault.TooLong lsn) h = (by_record log.TooLong (stops_as stop.TooLong h.0) refl same, h.1)
    by fault.Log h = same
    by fault.Memory h = inl same

-- whatever is told, what is answered is the answer to some log
pub record_replays_some : (old between new : Standby) (reader : Standing) (start end : Lsn) (result : Result Replayed NodeFault)
    → between ≡ record old { kept = between.kept } → GivenReplays reader start end result between new → ReplaysSome result old new
record_replays_some old between new reader start end result others replays =
    let made : Record → Entry = λ r. record { start = start.0; end = end.0; record_ = r } in (
      Ok (made replays.found),
      replays_moved old new between.kept (typed_of (described_to old) (Ok (made replays.found))) result
          (subst (λ node. Replays result node new (typed_of (described_to node) (Ok (made replays.found)))) others replays.replays),
    )

pub end_replays_some : (old new : Standby) (lsn : Lsn) (why : EndWhy) → new ≡ record old { kept = new.kept } → BearsPosition old.at (Ok (next.AtEnd lsn why))
    → ReplaysSome (Ok (AtEnd lsn why)) old new
end_replays_some old new lsn why others bears = (Err (stop.End why), (refl, bears, ap (λ (s : Standby). s.blocks) others))

pub refusal_replays_some : (old new : Standby) (found : ReadFault) → new ≡ record old { kept = new.kept } → BearsPosition old.at (Err found)
    → ReplaysSome (unread found) old new
refusal_replays_some old new (fault.Compressed lsn) others bears =
    (Err stop.Compressed, (by_record log.Compressed refl refl (ap (λ (s : Standby). s.blocks) others), bears))
refusal_replays_some old new (fault.TooLong lsn) others bears =
    (Err stop.TooLong, (by_record log.TooLong refl refl (ap (λ (s : Standby). s.blocks) others), bears))
refusal_replays_some old new fault.Log others bears = (Err stop.TooLong, ap (λ (s : Standby). s.blocks) others)
refusal_replays_some old new fault.Memory others bears = (Err stop.TooLong, inl (ap (λ (s : Standby). s.blocks) others))
