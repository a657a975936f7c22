-- What a scan is given of a node, and what is left of the open scans then.
use Rattle.std.proofs.Common.{◌≡◌, ℕ, ◌+◌, ◌<◌, ◌&&◌, Bool, true, false, cond, List, ◌++◌, length, set, get_or, Option, Some, None, refl, sym, ap, subst, ◌∙◌, zero-add}
use Rattle.std.specs.Prelude.{All, IfOk, Result}
use Rattle.std.specs.List.{flat_map, remove}
use Rattle.std.proofs.lemmas.List.Elements.{All-same, All-set}
use Rattle.std.proofs.lemmas.Result.{IfOk-weaker}
use Rattle.pg_types.specs.declared.fail.NoMemory.{NoMemory}
use Rattle.page_store.specs.Seen.{View}
use Rattle.heap_tuple.specs.declared.cell.Cell.{Cell}
use Rattle.table_schema.specs.Description.{Description, first_that}
use Rattle.table_schema.specs.Tables.{columns_of}
use Rattle.xact_redo.specs.Sees.{sees_by}
use Rattle.xact_redo.specs.State.{TransactionState}
use Rattle.seq_scan.specs.BlockRows.{BlockEnd, BlockRows, Whole, ToastedAt, BadAt, UnknownAt, NoPage}
use Rattle.seq_scan.specs.Printed.{row_line}
use Rattle.seq_scan.specs.Scans.{OpenScan, after_page, end_at, end_of_page, has_more, has_next, page_of}
use Rattle.seq_scan.specs.declared.scan.PageEnd.{PageEnd}
use Rattle.recovery_conflict.specs.declared.locks.Cause.{Cause}
use Rattle.standby_core.specs.declared.scans.NodePage.{NodePage}
use Rattle.standby_core.specs.declared.scans.NodePage.TheVariants as next
use Rattle.standby_core.specs.declared.scans.NodeScan.{NodeScan}
use Rattle.standby_core.specs.declared.scans.PrintedPage.{PrintedPage}
use Rattle.standby_core.specs.declared.scans.PrintedPage.TheVariants as printed
use Rattle.standby_core.specs.Standby.{Standby}
use Rattle.standby_core.specs.Scans.{GivesPage, GivesUnlessCancelled, PrintsPage, PrintsUnlessCancelled, after_closing, goes_on, is_more, is_whole, moved_on, node_page, scan_with, without}
use Rattle.standby_core.specs.Pages.{AreDescribed, ReadsFrom, has_id, with_scans}
use Rattle.standby_core.proofs.Places.{StandsAt, all_left, found_at, moved_there, remove_set, scan_there, with_page, without_there}

and_true : (b : Bool) → b ≡ (b && true)
and_true true = refl
and_true false = refl

and_false : (b : Bool) → false ≡ (b && false)
and_false true = refl
and_false false = refl

-- there is more behind a page where the scan goes on
more_at : (block : ℕ) (more : Bool) (end : BlockEnd) → is_more (end_at block more end) ≡ (more && is_whole end)
more_at block more Whole = and_true more
more_at block more (ToastedAt line column) = and_false more
more_at block more (BadAt line column) = and_false more
more_at block more (UnknownAt line id) = and_false more
more_at block more NoPage = and_false more

pub is_more_there : (scan : OpenScan) (page : BlockRows) → is_more (end_of_page scan page) ≡ goes_on scan page
is_more_there scan page = more_at scan.given (has_more scan) page.end

-- the place where the scan with an id was found
pub stands_there : (id : ℕ) (scans : List NodeScan) (place : ℕ) → Some place ≡ first_that (has_id id) 0 scans → StandsAt id scans place
stands_there id scans place e =
    let found = found_at id 0 scans place (sym e) in subst (StandsAt id scans) (sym (found.1 ∙ zero-add found.0)) found.2

-- what is given to a scan of these tables, blocks and transactions
abbrev pub page_for : Description → View → TransactionState → OpenScan → BlockRows
page_for tables blocks transactions scan =
    page_of (columns_of tables scan.table) (sees_by scan.snapshot transactions) (blocks scan.table) scan

pub page_is : (node : Standby) (scans : List NodeScan) (tables : Description) (blocks : View) (transactions : TransactionState) (scan : OpenScan)
    → ReadsFrom node scans tables blocks transactions → page_for tables blocks transactions scan ≡ node_page node scan
page_is node scans tables blocks transactions scan reads =
    ap (λ (t : Description). page_for t blocks transactions scan) (sym reads.described)
    ∙ ap (λ (b : View). page_for node.tables b transactions scan) (sym reads.blocks_are)
    ∙ ap (λ (t : TransactionState). page_for node.tables node.blocks t scan) (sym reads.known)

-- the open scans once the scan at a place was given a page that ends so
abbrev pub kept_scans : Bool → List NodeScan → ℕ → NodeScan → List NodeScan
kept_scans more scans place one =
    cond more (set scans place one) (remove (set scans place one) place)

-- the scan with its page, and the scans that are left then
module _ (id place : ℕ) (scans : List NodeScan) (one : NodeScan) (stands : StandsAt id scans place) (there : one ≡ get_or scans place one) where
  pub scan_is : scan_with id scans ≡ Some one
  scan_is = scan_there id scans place one stands ∙ ap (λ (o : NodeScan). Some o) (sym there)

  left_is : (more : Bool) → kept_scans more scans place (with_page one) ≡ cond more (moved_on id scans) (without id scans)
  left_is true = ap (λ (o : NodeScan). set scans place (with_page o)) there ∙ sym (moved_there id scans place one stands)
  left_is false = remove_set scans place (with_page one) ∙ sym (without_there id scans place stands)

  pub scans_left : (more goes : Bool) (after : OpenScan) (new : List NodeScan) → after ≡ after_page one.scan → more ≡ goes
      → new ≡ kept_scans more scans place (record one { scan = after }) → new ≡ cond goes (moved_on id scans) (without id scans)
  scans_left more goes after new moved same e =
      e
      ∙ ap (λ (scan : OpenScan). let o : NodeScan = record one { scan = scan } in kept_scans more scans place o) moved
      ∙ ap (λ (m : Bool). kept_scans m scans place (with_page one)) same
      ∙ left_is goes

  module _ (node : Standby) (tables : Description) (blocks : View) (transactions : TransactionState) (reads : ReadsFrom node scans tables blocks transactions) where
    end_there : (end : PageEnd) → end ≡ end_of_page one.scan (page_for tables blocks transactions one.scan) → end ≡ end_of_page one.scan (node_page node one.scan)
    end_there end e = e ∙ ap (end_of_page one.scan) (page_is node scans tables blocks transactions one.scan reads)

    scans_there :
        (end : PageEnd) (after : OpenScan) (new : List NodeScan) → end ≡ end_of_page one.scan (page_for tables blocks transactions one.scan)
        → after ≡ after_page one.scan → new ≡ kept_scans (is_more end) scans place (record one { scan = after })
        → with_scans node new
        ≡ with_scans node (cond (goes_on one.scan (node_page node one.scan)) (moved_on id node.scans) (without id node.scans))
    scans_there end after new e moved left =
        let goes = goes_on one.scan (node_page node one.scan) in
        let same : is_more end ≡ goes = ap is_more (end_there end e) ∙ is_more_there one.scan (node_page node one.scan) in
        ap (with_scans node) (scans_left (is_more end) goes after new moved same left)
        ∙ ap (λ (s : List NodeScan). with_scans node (cond goes (moved_on id s) (without id s))) (sym reads.open_scans)

    -- the scan was cancelled, and is taken away
    closes : (new : List NodeScan) → new ≡ remove scans place → with_scans node new ≡ after_closing id node
    closes new left =
        ap (with_scans node) (left ∙ sym (without_there id scans place stands) ∙ ap (without id) (sym reads.open_scans))

    pub gives_cancelled :
        (cause : Cause) (new : List NodeScan) → one.cause ≡ Some cause → new ≡ remove scans place
        → GivesPage id (scan_with id scans) node (Some (next.Cancelled cause)) (with_scans node new)
    gives_cancelled cause new has left =
        subst (λ (found : Option NodeScan). GivesPage id found node (Some (next.Cancelled cause)) (with_scans node new)) (sym scan_is)
        (subst (λ (why : Option Cause). GivesUnlessCancelled id why one.scan node (Some (next.Cancelled cause)) (with_scans node new)) (sym has)
        (refl, closes new left))

    pub prints_cancelled :
        (head text : List ℕ) (cause : Cause) (new : List NodeScan) → one.cause ≡ Some cause → new ≡ remove scans place
        → PrintsPage id (scan_with id scans) node (Some (printed.Cancelled cause)) (with_scans node new) head text text
    prints_cancelled head text cause new has left =
        subst (λ (found : Option NodeScan). PrintsPage id found node (Some (printed.Cancelled cause)) (with_scans node new) head text text) (sym scan_is)
        (subst (λ (why : Option Cause). PrintsUnlessCancelled id why one.scan node (Some (printed.Cancelled cause)) (with_scans node new) head text text) (sym has)
        (refl, closes new left, refl))

    -- the scan is given its next page
    pub gives :
        one.cause ≡ None → (table : ℕ) (rows : List (List Cell)) (end : PageEnd) (after : OpenScan) (new : List NodeScan) → table ≡ one.scan.table
        → (rows ≡ (page_for tables blocks transactions one.scan).rows) × (end ≡ end_of_page one.scan (page_for tables blocks transactions one.scan))
        → after ≡ after_page one.scan → new ≡ kept_scans (is_more end) scans place (record one { scan = after })
        → GivesPage id (scan_with id scans) node (Some (next.Given table rows end)) (with_scans node new)
    gives free table rows end after new numbered page moved left =
        let given : ℕ → List (List Cell) → PageEnd → Option NodePage = λ t r e. Some (next.Given t r e) in
        let all_rows : rows ≡ (node_page node one.scan).rows = page.0 ∙ ap (λ (p : BlockRows). p.rows) (page_is node scans tables blocks transactions one.scan reads) in
        subst (λ (found : Option NodeScan). GivesPage id found node (given table rows end) (with_scans node new)) (sym scan_is)
        (subst (λ (why : Option Cause). GivesUnlessCancelled id why one.scan node (given table rows end) (with_scans node new)) (sym free) (
          ap (λ t. given t rows end) numbered
              ∙ ap (λ r. given one.scan.table r end) all_rows
              ∙ ap (given one.scan.table (node_page node one.scan).rows) (end_there end page.1),
          scans_there end after new page.1 moved left,
        ))

    -- its next page is printed
    pub prints :
        one.cause ≡ None → (head text out : List ℕ) (table : ℕ) (end : PageEnd) (after : OpenScan) (new : List NodeScan) → table ≡ one.scan.table
        → (out ≡ text ++ flat_map (row_line head (columns_of tables one.scan.table)) (page_for tables blocks transactions one.scan).rows)
        × (end ≡ end_of_page one.scan (page_for tables blocks transactions one.scan))
        → after ≡ after_page one.scan → new ≡ kept_scans (is_more end) scans place (record one { scan = after })
        → PrintsPage id (scan_with id scans) node (Some (printed.Given table end)) (with_scans node new) head text out
    prints free head text out table end after new numbered page moved left =
        let given : ℕ → PageEnd → Option PrintedPage = λ t e. Some (printed.Given t e) in
        subst (λ (found : Option NodeScan). PrintsPage id found node (given table end) (with_scans node new) head text out) (sym scan_is)
        (subst (λ (why : Option Cause). PrintsUnlessCancelled id why one.scan node (given table end) (with_scans node new) head text out) (sym free) (
          ap (λ t. given t end) numbered ∙ ap (given one.scan.table) (end_there end page.1),
          scans_there end after new page.1 moved left,
          page.0
              ∙ ap (λ (t : Description). text ++ flat_map (row_line head (columns_of t one.scan.table)) (page_for tables blocks transactions one.scan).rows) (sym reads.described)
              ∙ ap (λ (p : BlockRows). text ++ flat_map (row_line head (columns_of node.tables one.scan.table)) p.rows) (page_is node scans tables blocks transactions one.scan reads),
        ))

-- the node's other parts are as before
left : (node : Standby) (scans : List NodeScan) (blocks : View) (next : ℕ) → blocks ≡ node.blocks → next ≡ node.next_id
    → with_scans node scans ≡ record node { blocks = blocks; scans = scans; next_id = next }
left node scans blocks next same_blocks same_next =
    ap (λ (b : View). let n : Standby = record node { blocks = b; scans = scans } in n) (sym same_blocks)
    ∙ ap (λ (k : ℕ). let n : Standby = record node { blocks = blocks; scans = scans; next_id = k } in n) (sym same_next)

-- so a node gives or prints the page of its scan
module _ (id : ℕ) (node : Standby) (scans : List NodeScan) (blocks : View) (next : ℕ) (same_blocks : blocks ≡ node.blocks) (same_next : next ≡ node.next_id) where
  pub node_gives :
      (result : Result (Option NodePage) NoMemory)
      → IfOk result (λ page. GivesPage id (scan_with id node.scans) node page (with_scans node scans))
      → IfOk result (λ page. GivesPage id (scan_with id node.scans) node page (record node { blocks = blocks; scans = scans; next_id = next }))
  node_gives result =
      IfOk-weaker result _ _
      (λ page gives. subst (GivesPage id (scan_with id node.scans) node page) (left node scans blocks next same_blocks same_next) gives)

  pub node_prints :
      (head before now : List ℕ) (result : Result (Option PrintedPage) NoMemory)
      → IfOk result (λ page. PrintsPage id (scan_with id node.scans) node page (with_scans node scans) head before now)
      → IfOk result
      (λ page. PrintsPage id (scan_with id node.scans) node page (record node { blocks = blocks; scans = scans; next_id = next }) head before now)
  node_prints head before now result =
      IfOk-weaker result _ _
      (λ page prints. subst (λ (n : Standby). PrintsPage id (scan_with id node.scans) node page n head before now)
      (left node scans blocks next same_blocks same_next) prints)

-- no page is given where no such scan is open
module _ (id : ℕ) (scans : List NodeScan) (none : scan_with id scans ≡ None) (node : Standby) (same : node.scans ≡ scans) where
  pub gives_none : GivesPage id (scan_with id scans) node None (with_scans node scans)
  gives_none =
      subst (λ (found : Option NodeScan). GivesPage id found node None (with_scans node scans)) (sym none) (refl, ap (with_scans node) (sym same))

  pub prints_none : (head text : List ℕ) → PrintsPage id (scan_with id scans) node None (with_scans node scans) head text text
  prints_none head text =
      subst (λ (found : Option NodeScan). PrintsPage id found node None (with_scans node scans) head text text) (sym none)
      (refl, ap (with_scans node) (sym same), refl)

-- the table of a scan is one of so many
abbrev pub IsBelow : ℕ → NodeScan → Type 0
IsBelow count one = one.scan.table < count

-- the tables of the scans that are left are described
pub kept_described :
    (tables : Description) (more : Bool) (scans new : List NodeScan) (place : ℕ) (one : NodeScan)
    → new ≡ kept_scans more scans place one → AreDescribed tables scans → one.scan.table < length tables.tables → AreDescribed tables new
kept_described tables more scans new place one e all has = All-same (IsBelow (length tables.tables)) new (kept_scans more scans place one) e (by more)
  where
    by : (m : Bool) → All (IsBelow (length tables.tables)) (kept_scans m scans place one)
    by true = All-set (IsBelow (length tables.tables)) scans place one has all
    by false =
        all_left (IsBelow (length tables.tables)) (set scans place one) place (All-set (IsBelow (length tables.tables)) scans place one has all)

-- a page leaves the table as it was
after_table : (scan : OpenScan) → (after_page scan).table ≡ scan.table
after_table scan = by (has_next scan)
  where
    by : (more : Bool) → (let after : OpenScan = cond more (record scan { given = scan.given + 1 }) scan in after.table ≡ scan.table)
    by true = refl
    by false = refl

-- so it stays below the number of the tables
pub described_onward :
    (count : ℕ) (one there : NodeScan) (after : OpenScan) → one ≡ there → after ≡ after_page one.scan → there.scan.table < count
    → after.table < count
described_onward count one there after same moved below =
    subst (λ (t : ℕ). t < count)
    (ap (λ (o : NodeScan). o.scan.table) (sym same) ∙ sym (after_table one.scan) ∙ ap (λ (s : OpenScan). s.table) (sym moved)) below
