-- A page of an open scan: the rows of its block that were committed at the opening.
use Rattle.std.proofs.Common.{◌≡◌, ◌⊎◌, ℕ, ◌+◌, ◌<◌, Bool, true, false, ◌&&◌, nat_lt, List, [], ◌++◌, Option, Some, None, Result, Ok, arith, refl, sym, ap, ◌∙◌, subst, if◌then◌else◌, inl, inr}
use Rattle.std.specs.List.{filter}
use Rattle.std.proofs.lemmas.Bool.{and_parts, both_ways, lt-ltb, ltb-false, ltb-true}
use Rattle.std.proofs.lemmas.List.Sorted.{IsPermutation-refl}
use Rattle.std.specs.List.Sorted.{IsPermutation}
use Rattle.pg_types.specs.declared.status.Unknown.{Unknown}
use Rattle.pg_types.specs.declared.names.Locator.{Locator}
use Rattle.heap_tuple.specs.declared.cell.Column.{Column}
use Rattle.heap_redo.specs.Redone.{table_of}
use Rattle.typed_records.specs.declared.types.Rec.{Rec}
use Rattle.page_store.specs.Seen.{Seen}
use Rattle.seq_scan.specs.BlockRows.{BlockRows, Whole, block_rows, ends}
use Rattle.seq_scan.specs.Scans.{has_more}
use Rattle.standby_snapshot.specs.Snapshot.{SnapshotData, take_of}
use Rattle.recovery_conflict.specs.declared.locks.Cause.{Cause}
use Rattle.xact_redo.specs.Sees.{sees_by}
use Rattle.row_model.specs.Versions.{Version}
use Rattle.row_model.specs.Origins.{committed_in}
use Rattle.row_model.specs.Multixacts.{multixacts}
use Rattle.row_model.specs.Locks.{is_gone}
use Rattle.row_model.specs.RowSteps.{block_count, versions, view_after}
use Rattle.row_model.specs.Rows.{IsRows, is_row}
use Rattle.row_pages.specs.Pages.{rows_of_versions}
use Rattle.table_schema.specs.Description.{Description, locators}
use Rattle.table_schema.specs.Tables.{columns_of, file_of, table_with}
use Rattle.standby_core.specs.Scans.{is_whole, moved_on, node_page, scan_with, without}
use Rattle.standby_core.specs.Standby.{Standby, described_in}
use Rattle.standby_core.specs.declared.scans.NodeScan.{NodeScan}
use Rattle.standby_model.specs.Log.{Stands}
use Rattle.session_model.specs.Events.{Reply, Next, Page}
use Rattle.session_model.specs.NodeSteps.{NodeStep, Reads, ReadsUnlessCancelled as NodeReads}
use Rattle.legal_session.specs.AbstractStandby.{AbstractScan, AbstractStandby, GivesRows, ReadsScan, ReadsUnlessCancelled, Step, World, after_block, after_close, given_block, log_origin, scan_in, without_scan}
use Rattle.legal_session.specs.Represents.{Represents, StandsForScan}
use Rattle.legal_session.proofs.Facts.{IsGood, Laws, LogLaws, begins_empty, legal_log, log_fits, log_rises, stood, table_shown}
use Rattle.legal_session.proofs.Placed.{all_from, none_past}
use Rattle.legal_session.proofs.Scans.{AreFound, are_found, are_moved, are_without}
use Rattle.legal_session.proofs.Steps.{LeadsTo, with_scans}
use Rattle.row_model.proofs.Shown.{none_there}

-- of a table that had no blocks there are no rows
no_rows :
    (laws : LogLaws) (w : World) (start : ℕ) → IsGood w start → (log : List Rec) (table : ℕ) → Stands w.told (described_in w.tables) start log
    → table_of (locators w.tables) (file_of w.tables table) ≡ Some table → is_gone (file_of w.tables table) log ≡ false
    → block_count (log_origin w) (file_of w.tables table) log ≡ 0
    → IsRows (multixacts log) (committed_in (log_origin w) log) (versions (log_origin w) (file_of w.tables table) log) []
no_rows laws w start good log table stands described there e =
    let o = log_origin w in
    let vs = versions o (file_of w.tables table) log in
    let legal = legal_log laws w start good log stands in
    let shows = table_shown laws w start good log stands legal.view table legal.redone described there in
    let test = is_row (multixacts log) (committed_in o log) in
    let count = block_count o (file_of w.tables table) log in
    let none =
    sym (all_from (filter test vs))
    ∙ none_past test count 0 (omega (arith, e)) vs
    (λ block further. none_there o log vs count block (legal.view table block) further (shows.shows block)) shows.lost in
    record { same = subst (λ (rows : List Version). IsPermutation rows []) (sym none) (IsPermutation-refl []); in_order = tt }

no_versions : (columns : List Column) → ends Whole ≡ rows_of_versions columns []
unfolding rows_of_versions
no_versions columns = refl

-- the rows of a block, if the table has it
abbrev page_at : List Column → (List ℕ → Result Bool Unknown) → (ℕ → Seen) → ℕ → ℕ → BlockRows
page_at columns sees blocks given count = if nat_lt given count then block_rows columns sees (blocks given) else ends Whole

page_there :
    (columns : List Column) (sees : List ℕ → Result Bool Unknown) (blocks : ℕ → Seen) (given count : ℕ) (t : Bool)
    → nat_lt given count ≡ t → page_at columns sees blocks given count ≡ (if t then block_rows columns sees (blocks given) else ends Whole)
page_there columns sees blocks given count t e = ap (λ (b : Bool). if b then block_rows columns sees (blocks given) else ends Whole) e

none_given : (given count n : ℕ) → (given ≡ 0) ⊎ (given < n) → n ≡ count → nat_lt given count ≡ false → count ≡ 0
none_given given count n (inl e) same past = let none = ltb-false given count past in omega (arith, e, none)
none_given given count n (inr less) same past = absurd (both_ways (nat_lt given count) past (lt-ltb given count (omega (arith, less, same))))

module _
    (laws : Laws) (w : World) (start : ℕ) (good : IsGood w start) (s : AbstractStandby) (node : Standby) (is : Represents w start node s)
    (one : NodeScan) (scan : AbstractScan) (so : StandsForScan w s.life node.transactions one scan) (uncancelled : scan.cause ≡ None) where
  abbrev file : Locator
  file = file_of w.tables scan.table

  abbrev count : ℕ
  count = block_count (log_origin w) file scan.opened

  abbrev columns : List Column
  columns = columns_of w.tables scan.table

  abbrev sees : List ℕ → Result Bool Unknown
  sees = sees_by (take_of so.was.known) node.transactions

  stands_long : Stands w.told (described_in w.tables) start (so.later ++ scan.opened)
  stands_long = subst (λ (log : List Rec). Stands w.told (described_in w.tables) start log) so.opened is.stands

  stands_opened : Stands w.told (described_in w.tables) start scan.opened
  stands_opened = stood w.told (described_in w.tables) start so.later scan.opened stands_long

  -- what it is given, by the log
  page_is : node_page node one.scan ≡ page_at columns sees (node.blocks scan.table) scan.given count
  page_is =
      ap (λ (t : Description). page_at (columns_of t one.scan.table) (sees_by one.scan.snapshot node.transactions) (node.blocks one.scan.table) one.scan.given one.scan.blocks) is.tables
      ∙ ap (λ (table : ℕ). page_at (columns_of w.tables table) (sees_by one.scan.snapshot node.transactions) (node.blocks table) one.scan.given one.scan.blocks) so.table
      ∙ ap (λ (snapshot : SnapshotData). page_at columns (sees_by snapshot node.transactions) (node.blocks scan.table) one.scan.given one.scan.blocks) so.snapshot
      ∙ ap (λ (given : ℕ). page_at columns sees (node.blocks scan.table) given one.scan.blocks) so.given
      ∙ ap (λ (n : ℕ). page_at columns sees (node.blocks scan.table) scan.given n) so.blocks

  more_is : has_more one.scan ≡ nat_lt (scan.given + 1) count
  more_is = ap (λ (given : ℕ). nat_lt (given + 1) one.scan.blocks) so.given ∙ ap (λ (n : ℕ). nat_lt (scan.given + 1) n) so.blocks

  page_by : (there : Bool) → nat_lt scan.given count ≡ there → GivesRows w scan (node_page node one.scan) (has_more one.scan)
  page_by true e =
      let (rows, are_rows, scanned) =
      laws.keeps (log_origin w) (locators w.tables) so.later scan.opened node.blocks scan.table file columns scan.xmin so.was node.transactions so.described (begins_empty w)
      (λ x. (refl, refl)) (legal_log laws.logs w start good (so.later ++ scan.opened) stands_long)
      (log_rises laws.logs w start good (so.later ++ scan.opened) stands_long) (log_fits laws.logs w start good (so.later ++ scan.opened) stands_long)
      so.along so.ready so.since so.least so.there so.unlocked (so.free uncancelled)
      (subst (λ (log : List Rec). view_after (log_origin w) (locators w.tables) log ≡ Ok node.blocks) so.opened is.blocks) in
      record {
        rows = rows;
        are_rows = are_rows;
        gives = page_is ∙ page_there columns sees (node.blocks scan.table) scan.given count true e
            ∙ scanned.each scan.given (ltb-true scan.given count e);
        further = more_is;
      }
  page_by false e = record {
    rows = [];
    are_rows = no_rows laws.logs w start good scan.opened scan.table stands_opened
        so.described so.there
        (none_given scan.given count one.scan.blocks (subst (λ (given : ℕ). (scan.given ≡ 0) ⊎ (scan.given < one.scan.blocks)) so.given so.inside)
        so.blocks e);
    gives = page_is ∙ page_there columns sees (node.blocks scan.table) scan.given count false e ∙ no_versions columns;
    further = more_is;
  }

  pub gives_rows : GivesRows w scan (node_page node one.scan) (has_more one.scan)
  gives_rows = page_by (nat_lt scan.given count) refl

one_open : (a b : NodeScan) → ◌≡◌ {A = Option NodeScan} (Some a) (Some b) → a ≡ b
one_open a b e = cc

module _ (laws : Laws) (w : World) (start : ℕ) (good : IsGood w start) (s : AbstractStandby) (node : Standby) (is : Represents w start node s) (id : ℕ) where
  -- the scan goes on, or is closed
  read_on :
      (one : NodeScan) (on : Bool) → scan_with id node.scans ≡ Some one → (on ≡ true → has_more one.scan ≡ true)
      → Represents w start (record node { scans = if on then moved_on id node.scans else without id node.scans })
      (record s { scans = if on then given_block id s.scans else without_scan id s.scans })
  read_on one true e more =
      with_scans w start node s (moved_on id node.scans) (given_block id s.scans) is
      (are_moved w s.life node.transactions id node.scans s.scans
      (λ found f. subst (λ (o : NodeScan). has_more o.scan ≡ true) (one_open one found (sym e ∙ f)) (more refl)) is.scans)
  read_on one false e more =
      with_scans w start node s (without id node.scans) (without_scan id s.scans) is (are_without w s.life node.transactions id node.scans s.scans is.scans)

  reads_unless :
      (one : NodeScan) (scan : AbstractScan) (reply : Reply) (now : Standby) (cause : Option Cause) → scan_with id node.scans ≡ Some one
      → StandsForScan w s.life node.transactions one scan → scan.cause ≡ cause → NodeReads id cause one.scan node reply now
      → LeadsTo w start (ReadsUnlessCancelled w id scan cause s reply) now
  reads_unless one scan reply now (Some cause) e so by (says, same) = (
    after_close id s,
    (says, refl),
    subst (λ (n : Standby). Represents w start n (after_close id s)) (sym same)
        (with_scans w start node s (without id node.scans) (without_scan id s.scans) is (are_without w s.life node.transactions id node.scans s.scans is.scans)),
  )
  reads_unless one scan reply now None e so by (says, same) =
      let page = node_page node one.scan in
      let more = has_more one.scan in
      let next = after_block id (more && is_whole page.end) s in (
        next,
        (
          page,
          more,
          gives_rows laws w start good s node is one scan so by,
          says
              ∙ ap (λ (t : Description). Page id (table_with t one.scan.table) one.scan.given more page) is.tables
              ∙ ap (λ (table : ℕ). Page id (table_with w.tables table) one.scan.given more page) so.table
              ∙ ap (λ (given : ℕ). Page id (table_with w.tables scan.table) given more page) so.given,
          refl,
        ),
        subst (λ (n : Standby). Represents w start n next) (sym same)
            (read_on one (more && is_whole page.end) e (λ on. (and_parts more (is_whole page.end) on).0)),
      )

  reads_found :
      (one : Option NodeScan) (scan : Option AbstractScan) (reply : Reply) (now : Standby) → scan_with id node.scans ≡ one
      → AreFound w s.life node.transactions one scan → Reads id one node reply now → LeadsTo w start (ReadsScan w id scan s reply) now
  reads_found None None reply now e are (says, same) =
      (s, (says, refl), subst (λ (n : Standby). Represents w start n s) (sym same) is)
  reads_found None (Some scan) reply now e are step = absurd are
  reads_found (Some one) None reply now e are step = absurd are
  reads_found (Some one) (Some scan) reply now e so step =
      reads_unless one scan reply now scan.cause e so refl
      (subst (λ (cause : Option Cause). NodeReads id cause one.scan node reply now) so.cause step)

  pub reads_scan : (reply : Reply) (now : Standby) → NodeStep w.told.byte (Next id) node reply now → LeadsTo w start (Step w (Next id) s reply) now
  reads_scan reply now step =
      reads_found (scan_with id node.scans) (scan_in id s.scans) reply now refl (are_found w s.life node.transactions id node.scans s.scans is.scans) step
