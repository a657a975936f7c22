-- The held scans of a node and of the abstract standby, one for one.
use Rattle.std.proofs.Common.{◌≡◌, ℕ, ◌+◌, ◌<◌, ◌≤◌, ◌==◌, Bool, true, false, nat_lt, List, [], ◌∷◌, ◌++◌, length, map, Option, Some, None, arith, refl, sym, ap, ◌∙◌, subst, if◌then◌else◌, inr}
use Rattle.std.specs.Prelude.{is_some}
use Rattle.std.proofs.lemmas.Bool.{lt-ltb, ltb-true}
use Rattle.std.proofs.lemmas.List.Elements.{All-cons}
use Rattle.heap_redo.specs.Redone.{table_of}
use Rattle.recovery_conflict.specs.declared.locks.Cause.{Cause}
use Rattle.recovery_conflict.specs.Causes.{cause_of}
use Rattle.row_model.specs.Conflicts.{conflicts}
use Rattle.table_schema.specs.Description.{locators}
use Rattle.table_schema.specs.Tables.{file_of}
use Rattle.typed_records.specs.declared.types.Rec.{Rec}
use Rattle.standby_snapshot.specs.Snapshot.{SnapshotData}
use Rattle.transaction_model.specs.StandbyStates.{MayForget}
use Rattle.xact_redo.specs.State.{TransactionState, forgetting, standby_of, state_after}
use Rattle.seq_scan.specs.Scans.{OpenScan, after_page, has_more}
use Rattle.standby_core.specs.declared.scans.NodeScan.{NodeScan}
use Rattle.standby_core.specs.Conflicts.{cancelled_by, cancelled_one, first_cause, oid_of}
use Rattle.standby_core.specs.Scans.{moved_on, scan_with, without}
use Rattle.legal_session.proofs.Forgotten.{IsBelowScans}
use Rattle.legal_session.specs.AbstractStandby.{AbstractScan, World, given_block, log_origin, met, oid_with, scan_in, without_scan}
use Rattle.legal_session.specs.Represents.{StandForScans, StandsForScan}

pub same_count :
    (w : World) (life : List Rec) (now : TransactionState) (ones : List NodeScan) (scans : List AbstractScan) → StandForScans w life now ones scans
    → length ones ≡ length scans
same_count w life now [] [] all = refl
same_count w life now [] (scan ∷ scans) all = absurd all
same_count w life now (one ∷ ones) [] all = absurd all
same_count w life now (one ∷ ones) (scan ∷ scans) (first, rest) = let same = same_count w life now ones scans rest in omega (arith, same)

-- a record conflicts with a scan of a described table exactly where it has a cause
no_conflict :
    (w : World) (rec : Rec) (table xmin : ℕ) → table_of (locators w.tables) (file_of w.tables table) ≡ Some table
    → cause_of rec w.tables.database (oid_of w.tables table) xmin ≡ None
    → conflicts (log_origin w) (file_of w.tables table) xmin rec ≡ false
no_conflict w rec table xmin described none =
    ap (λ (found : Option ℕ). is_some (cause_of rec w.tables.database (oid_with w.tables found) xmin)) described ∙ ap is_some none

no_cause : (was found : Option Cause) → first_cause was found ≡ None → (was ≡ None) × (found ≡ None)
no_cause None found e = (refl, e)
no_cause (Some cause) found e = cc

-- one more record, after which the parents below a bound are forgotten
module _ (w : World) (rec : Rec) (life : List Rec) (was now : TransactionState) (bound : ℕ) (may : MayForget bound (standby_of (state_after rec was))) (same : now ≡ forgetting bound (state_after rec was)) where
  later_one :
      (one : NodeScan) (scan : AbstractScan) → bound ≤ one.scan.snapshot.xmin → StandsForScan w life was one scan
      → StandsForScan w (rec ∷ life) now (cancelled_one rec w.tables one) (met w rec scan)
  unfolding cancelled_one met
  later_one one scan below is = record {
    id = is.id;
    table = is.table;
    described = is.described;
    later = rec ∷ is.later;
    opened = ap (λ (log : List Rec). rec ∷ log) is.opened;
    was = is.was;
    along = is.along;
    ready = is.ready;
    snapshot = is.snapshot;
    since = (was, bound, is.since, may, subst (λ (snapshot : SnapshotData). bound ≤ snapshot.xmin) is.snapshot below, same);
    xmin = is.xmin;
    least = is.least;
    there = is.there;
    unlocked = is.unlocked;
    blocks = is.blocks;
    cause =
        ap (λ (cause : Option Cause). first_cause cause (cause_of rec w.tables.database (oid_of w.tables one.scan.table) one.scan.snapshot.xmin)) is.cause
        ∙ ap (λ (table : ℕ). first_cause scan.cause (cause_of rec w.tables.database (oid_of w.tables table) one.scan.snapshot.xmin)) is.table
        ∙ ap (λ (xmin : ℕ). first_cause scan.cause (cause_of rec w.tables.database (oid_of w.tables scan.table) xmin)) is.xmin;
    free = λ none.
        let (before, here) = no_cause scan.cause (cause_of rec w.tables.database (oid_of w.tables scan.table) scan.xmin) none in
        All-cons (λ (r : Rec). conflicts (log_origin w) (file_of w.tables scan.table) scan.xmin r ≡ false) rec is.later
        (no_conflict w rec scan.table scan.xmin is.described here) (is.free before);
    given = is.given;
    inside = is.inside;
  }

  pub later_scans :
      (ones : List NodeScan) (scans : List AbstractScan) → IsBelowScans bound ones → StandForScans w life was ones scans
      → StandForScans w (rec ∷ life) now (cancelled_by rec w.tables ones) (map (met w rec) scans)
  later_scans [] [] below all = tt
  later_scans [] (scan ∷ scans) below all = absurd all
  later_scans (one ∷ ones) [] below all = absurd all
  later_scans (one ∷ ones) (scan ∷ scans) (low, below) (first, rest) =
      (later_one one scan low first, later_scans ones scans below rest)

-- one more scan
pub one_opened :
    (w : World) (life : List Rec) (now : TransactionState) (ones : List NodeScan) (scans : List AbstractScan) (one : NodeScan) (scan : AbstractScan)
    → StandsForScan w life now one scan → StandForScans w life now ones scans → StandForScans w life now (ones ++ one ∷ []) (scans ++ scan ∷ [])
one_opened w life now [] [] one scan is all = (is, tt)
one_opened w life now [] (other ∷ scans) one scan is all = absurd all
one_opened w life now (other ∷ ones) [] one scan is all = absurd all
one_opened w life now (other ∷ ones) (that ∷ scans) one scan is (first, rest) = (first, one_opened w life now ones scans one scan is rest)

-- one that is found under an id
abbrev pub AreFound : World → List Rec → TransactionState → Option NodeScan → Option AbstractScan → Type 0
AreFound w life now None None = Unit {0}
AreFound w life now None (Some scan) = ⊥
AreFound w life now (Some one) None = ⊥
AreFound w life now (Some one) (Some scan) = StandsForScan w life now one scan

module _ (w : World) (life : List Rec) (now : TransactionState) (id : ℕ) where
  same_test : (one : NodeScan) (scan : AbstractScan) → StandsForScan w life now one scan → (one.id == id) ≡ (scan.id == id)
  same_test one scan is = ap (λ (n : ℕ). n == id) is.id

  found_first :
      (a b : Bool) (one : NodeScan) (scan : AbstractScan) (rest : Option NodeScan) (others : Option AbstractScan) → a ≡ b
      → StandsForScan w life now one scan → AreFound w life now rest others
      → AreFound w life now (if a then Some one else rest) (if b then Some scan else others)
  found_first true true one scan rest others e is later = is
  found_first false false one scan rest others e is later = later
  found_first true false one scan rest others e is later = cc
  found_first false true one scan rest others e is later = cc

  pub are_found :
      (ones : List NodeScan) (scans : List AbstractScan) → StandForScans w life now ones scans
      → AreFound w life now (scan_with id ones) (scan_in id scans)
  are_found [] [] all = tt
  are_found [] (scan ∷ scans) all = absurd all
  are_found (one ∷ ones) [] all = absurd all
  are_found (one ∷ ones) (scan ∷ scans) (first, rest) =
      found_first (one.id == id) (scan.id == id) one scan (scan_with id ones) (scan_in id scans) (same_test one scan first) first
      (are_found ones scans rest)

  pub both_found : (one : Option NodeScan) (scan : Option AbstractScan) → AreFound w life now one scan → is_some one ≡ is_some scan
  both_found None None are = refl
  both_found None (Some scan) are = absurd are
  both_found (Some one) None are = absurd are
  both_found (Some one) (Some scan) are = refl

  without_first :
      (a b : Bool) (one : NodeScan) (scan : AbstractScan) (ones others : List NodeScan) (scans those : List AbstractScan) → a ≡ b
      → StandsForScan w life now one scan → StandForScans w life now ones scans → StandForScans w life now others those
      → StandForScans w life now (if a then ones else one ∷ others) (if b then scans else scan ∷ those)
  without_first true true one scan ones others scans those e is rest later = rest
  without_first false false one scan ones others scans those e is rest later = (is, later)
  without_first true false one scan ones others scans those e is rest later = cc
  without_first false true one scan ones others scans those e is rest later = cc

  pub are_without :
      (ones : List NodeScan) (scans : List AbstractScan) → StandForScans w life now ones scans
      → StandForScans w life now (without id ones) (without_scan id scans)
  are_without [] [] all = tt
  are_without [] (scan ∷ scans) all = absurd all
  are_without (one ∷ ones) [] all = absurd all
  are_without (one ∷ ones) (scan ∷ scans) (first, rest) =
      without_first (one.id == id) (scan.id == id) one scan ones (without id ones) scans (without_scan id scans)
      (same_test one scan first) first rest (are_without ones scans rest)

  -- one that has more goes on
  less_than : (a b : ℕ) → nat_lt a b ≡ true → a < b
  less_than a b e = ltb-true a b e

  after_more : (held : OpenScan) → has_more held ≡ true → after_page held ≡ record held { given = held.given + 1 }
  after_more held more =
      let less = less_than (held.given + 1) held.blocks more in
      ap (λ (t : Bool). if t then record held { given = held.given + 1 } else held) (lt-ltb held.given held.blocks (omega (arith, less)))

  one_on :
      (one : NodeScan) (scan : AbstractScan) → has_more one.scan ≡ true → StandsForScan w life now one scan
      → StandsForScan w life now (record one { scan = after_page one.scan }) (record scan { given = scan.given + 1 })
  one_on one scan more is =
      let less = less_than (one.scan.given + 1) one.scan.blocks more in
      let given = is.given in
      subst (λ (held : OpenScan). StandsForScan w life now (record one { scan = held }) (record scan { given = scan.given + 1 }))
      (sym (after_more one.scan more))
      (record {
        id = is.id;
        table = is.table;
        described = is.described;
        later = is.later;
        opened = is.opened;
        was = is.was;
        along = is.along;
        ready = is.ready;
        snapshot = is.snapshot;
        since = is.since;
        xmin = is.xmin;
        least = is.least;
        there = is.there;
        unlocked = is.unlocked;
        blocks = is.blocks;
        cause = is.cause;
        free = is.free;
        given = ap (λ (n : ℕ). n + 1) is.given;
        inside = inr (subst (λ (n : ℕ). n + 1 < one.scan.blocks) given less);
      })

  moved_first :
      (a b : Bool) (one : NodeScan) (scan : AbstractScan) (ones others : List NodeScan) (scans those : List AbstractScan)
      (rest : Option NodeScan) → a ≡ b
      → ((found : NodeScan) → (if a then Some one else rest) ≡ Some found → has_more found.scan ≡ true)
      → StandsForScan w life now one scan → StandForScans w life now ones scans
      → (((found : NodeScan) → rest ≡ Some found → has_more found.scan ≡ true) → StandForScans w life now others those)
      → StandForScans w life now (if a then record one { scan = after_page one.scan } ∷ ones else one ∷ others)
      (if b then record scan { given = scan.given + 1 } ∷ scans else scan ∷ those)
  moved_first true true one scan ones others scans those rest e more is all later = (one_on one scan (more one refl) is, all)
  moved_first false false one scan ones others scans those rest e more is all later = (is, later more)
  moved_first true false one scan ones others scans those rest e more is all later = cc
  moved_first false true one scan ones others scans those rest e more is all later = cc

  pub are_moved :
      (ones : List NodeScan) (scans : List AbstractScan)
      → ((found : NodeScan) → scan_with id ones ≡ Some found → has_more found.scan ≡ true) → StandForScans w life now ones scans
      → StandForScans w life now (moved_on id ones) (given_block id scans)
  are_moved [] [] more all = tt
  are_moved [] (scan ∷ scans) more all = absurd all
  are_moved (one ∷ ones) [] more all = absurd all
  are_moved (one ∷ ones) (scan ∷ scans) more (first, rest) =
      moved_first (one.id == id) (scan.id == id) one scan ones (moved_on id ones) scans (given_block id scans) (scan_with id ones)
      (same_test one scan first) more first rest (λ on. are_moved ones scans on rest)
