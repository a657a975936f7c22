-- A node is led by an event to one reply and one node.
use Rattle.std.proofs.Common.{◌≡◌, ℕ, ◌<◌, Bool, true, false, Option, None, Some, Result, Ok, Err, arith, sym, ap, ◌∙◌}
use Rattle.std.proofs.lemmas.Bool.{lt-ltb, ltb-true}
use Rattle.pg_types.specs.declared.names.Lsn.{Lsn}
use Rattle.typed_records.specs.declared.types.Rec.{Rec}
use Rattle.page_store.specs.Seen.{View}
use Rattle.heap_redo.specs.Redone.{redone_record}
use Rattle.heap_redo.specs.declared.fault.RedoFault.{RedoFault}
use Rattle.table_schema.specs.Description.{locators}
use Rattle.table_schema.specs.Tables.{number_named}
use Rattle.seq_scan.specs.Scans.{OpenScan}
use Rattle.standby_model.specs.Log as log
use Rattle.standby_model.specs.Log.{Stop, record_at}
use Rattle.recovery_conflict.specs.declared.locks.Cause.{Cause}
use Rattle.recovery_conflict.specs.declared.locks.HeldLock.{HeldLock}
use Rattle.standby_core.specs.declared.types.Refusal.{Refusal}
use Rattle.standby_core.specs.declared.scans.NodeScan.{NodeScan}
use Rattle.standby_core.specs.declared.scans.Opened.{Opened as OpenedBy}
use Rattle.standby_core.specs.Standby.{Standby, described_to, told_to}
use Rattle.standby_core.specs.Replay.{redo_refusal}
use Rattle.standby_core.specs.Scans.{HasBlocks, OpensAdmitted, OpensScan, OpensTable, OpensUnlessCrowded, OpensUnlessGone, OpensUnlessLocked, gone_since, is_admitted, is_crowded, lock_of, scan_with, with_new_scan}
use Rattle.session_model.specs.Events.{AsksStatus, ReplayOne, Open, Next, Close, Reply, Refused}
use Rattle.session_model.specs.NodeSteps.{NodeStep, Reads, ReadsUnlessCancelled, ReplaysBlocks, ReplaysOne, opening_reply}
use Rattle.session_model.specs.Laws.{OneStep}

told_once :
    {A B : Type 0} (a b said : A) (now later node : B) → (a ≡ said) × (now ≡ node) → (b ≡ said) × (later ≡ node)
    → (a ≡ b) × (now ≡ later)
told_once a b said now later node (e, f) (g, h) = (e ∙ sym g, f ∙ sym h)

one_some : {A : Type 0} (found : Option A) (a b : A) → found ≡ Some a → found ≡ Some b → a ≡ b
one_some found a b e f = cc

blocks_once :
    (rec : Rec) (blocks : View) (outcome : Result (Unit {0}) RedoFault) (s : Standby) (reply other : Reply) (now later : Standby)
    → ReplaysBlocks rec blocks outcome s reply now → ReplaysBlocks rec blocks outcome s other later
    → (reply ≡ other) × (now ≡ later)
blocks_once rec blocks (Ok done) s reply other now later (e, f) (g, h) = (e ∙ sym g, f ∙ sym h)
blocks_once rec blocks (Err fault) s reply other now later (what, is, e, f) (why, was, g, h) =
    let same = one_some (redo_refusal fault) what why is was in
    (e ∙ ap (λ (r : Refusal). Refused s.at.0 r) same ∙ sym g, f ∙ sym h)

replays_once :
    (found : Result Rec Stop) (s : Standby) (reply other : Reply) (now later : Standby) → ReplaysOne found s reply now
    → ReplaysOne found s other later → (reply ≡ other) × (now ≡ later)
replays_once (Ok rec) s reply other now later one two =
    blocks_once rec (redone_record rec (locators s.tables) s.blocks).0 (redone_record rec (locators s.tables) s.blocks).1
    s reply other now later one two
replays_once (Err (log.Ended why)) s reply other now later (e, f) (g, h) = (e ∙ sym g, f ∙ sym h)
replays_once (Err (log.Refused what)) s reply other now later (e, f) (g, h) = (e ∙ sym g, f ∙ sym h)

-- a table has one number of blocks
reaches : (view : View) (table n m : ℕ) → HasBlocks view table n → HasBlocks view table m → n < m → ⊥
reaches view table n m few many less =
    let last = ltb-true n n (sym (few n) ∙ many n ∙ lt-ltb n m less) in omega (arith, last)

one_count : (view : View) (table n m : ℕ) → HasBlocks view table n → HasBlocks view table m → n ≡ m
one_count view table n m few many =
    omega (arith, (λ (less : n < m). reaches view table n m few many less), (λ (more : m < n). reaches view table m n many few more))

opens_scan_once :
    (s : Standby) (table : ℕ) (reply other : OpenedBy) (now later : Standby) → OpensScan s table reply now
    → OpensScan s table other later → (reply ≡ other) × (now ≡ later)
opens_scan_once s table reply other now later (n, few, e, f) (m, many, g, h) =
    let same = one_count s.blocks table n m few many in
    (e ∙ sym g, f ∙ ap (λ (count : ℕ). with_new_scan table count s) same ∙ sym h)

opens_unless_locked_once :
    (held : Option HeldLock) (s : Standby) (table : ℕ) (reply other : OpenedBy) (now later : Standby)
    → OpensUnlessLocked held s table reply now → OpensUnlessLocked held s table other later → (reply ≡ other) × (now ≡ later)
opens_unless_locked_once (Some held) s table reply other now later (e, f) (g, h) = (e ∙ sym g, f ∙ sym h)
opens_unless_locked_once None s table reply other now later one two = opens_scan_once s table reply other now later one two

opens_unless_gone_once :
    (since : Option Lsn) (s : Standby) (table : ℕ) (reply other : OpenedBy) (now later : Standby)
    → OpensUnlessGone since s table reply now → OpensUnlessGone since s table other later → (reply ≡ other) × (now ≡ later)
opens_unless_gone_once (Some lsn) s table reply other now later (e, f) (g, h) = (e ∙ sym g, f ∙ sym h)
opens_unless_gone_once None s table reply other now later one two =
    opens_unless_locked_once (lock_of s table) s table reply other now later one two

opens_admitted_once :
    (is : Bool) (s : Standby) (table : ℕ) (reply other : OpenedBy) (now later : Standby) → OpensAdmitted is s table reply now
    → OpensAdmitted is s table other later → (reply ≡ other) × (now ≡ later)
opens_admitted_once true s table reply other now later one two =
    opens_unless_gone_once (gone_since s table) s table reply other now later one two
opens_admitted_once false s table reply other now later (e, f) (g, h) = (e ∙ sym g, f ∙ sym h)

opens_unless_crowded_once :
    (is : Bool) (s : Standby) (table : ℕ) (reply other : OpenedBy) (now later : Standby)
    → OpensUnlessCrowded is s table reply now → OpensUnlessCrowded is s table other later → (reply ≡ other) × (now ≡ later)
opens_unless_crowded_once true s table reply other now later (e, f) (g, h) = (e ∙ sym g, f ∙ sym h)
opens_unless_crowded_once false s table reply other now later one two =
    opens_admitted_once (is_admitted s) s table reply other now later one two

opens_once :
    (found : Option ℕ) (s : Standby) (reply other : OpenedBy) (now later : Standby) → OpensTable found s reply now
    → OpensTable found s other later → (reply ≡ other) × (now ≡ later)
opens_once None s reply other now later (e, f) (g, h) = (e ∙ sym g, f ∙ sym h)
opens_once (Some table) s reply other now later one two =
    opens_unless_crowded_once (is_crowded s) s table reply other now later one two

reads_unless_cancelled_once :
    (id : ℕ) (cause : Option Cause) (scan : OpenScan) (s : Standby) (reply other : Reply) (now later : Standby)
    → ReadsUnlessCancelled id cause scan s reply now → ReadsUnlessCancelled id cause scan s other later → (reply ≡ other) × (now ≡ later)
reads_unless_cancelled_once id (Some cause) scan s reply other now later (e, f) (g, h) = (e ∙ sym g, f ∙ sym h)
reads_unless_cancelled_once id None scan s reply other now later (e, f) (g, h) = (e ∙ sym g, f ∙ sym h)

reads_once :
    (id : ℕ) (found : Option NodeScan) (s : Standby) (reply other : Reply) (now later : Standby) → Reads id found s reply now
    → Reads id found s other later → (reply ≡ other) × (now ≡ later)
reads_once id None s reply other now later (e, f) (g, h) = (e ∙ sym g, f ∙ sym h)
reads_once id (Some one) s reply other now later first two =
    reads_unless_cancelled_once id one.cause one.scan s reply other now later first two

pub node_once : (byte : ℕ → Option ℕ) → OneStep (NodeStep byte)
node_once byte AsksStatus s reply other now later (e, f) (g, h) = (e ∙ sym g, f ∙ sym h)
node_once byte ReplayOne s reply other now later one two =
    replays_once (record_at (told_to s byte) (described_to s) s.at.0 s.prev) s reply other now later one two
node_once byte (Open name) s reply other now later (answer, opens, e) (reacts, opened, f) =
    let same = opens_once (number_named s.tables name) s answer reacts now later opens opened in
    (e ∙ ap opening_reply same.0 ∙ sym f, same.1)
node_once byte (Next id) s reply other now later one two = reads_once id (scan_with id s.scans) s reply other now later one two
node_once byte (Close id) s reply other now later (e, f) (g, h) = (e ∙ sym g, f ∙ sym h)
