-- What a scan gives of a page in whose lines it reads the versions of its block.
use Rattle.std.proofs.Common.{◌≡◌, ℕ, zero, suc, ◌+◌, Bool, true, false, cond, List, [], ◌∷◌, ◌++◌, Result, Ok, Option, Some, None, arith, refl, sym, ap, ◌∙◌, subst}
use Rattle.pg_types.specs.declared.status.Unknown.{Unknown}
use Rattle.heap_tuple.specs.Values.{RowRefusal, row_of}
use Rattle.heap_tuple.specs.declared.cell.Cell.{Cell}
use Rattle.heap_tuple.specs.declared.cell.Column.{Column}
use Rattle.heap_page.specs.Item.{Item, unused, normal, redirect, dead, item_in}
use Rattle.page_store.specs.Seen.{Seen, absent, bad_block, seen_page}
use Rattle.seq_scan.specs.BlockRows.{BlockRows, with_values, with_tuple, rows_from, block_rows}
use Rattle.row_model.specs.Versions.{Version, version_at}
use Rattle.row_pages.specs.Pages.{ReadsNothing, ReadsPlace, ReadsSeen, ReadsTested, rows_of_versions}
use Rattle.row_pages.proofs.Places.{found_at}
use Rattle.row_pages.proofs.Found.{row_in, rows_on, rows_in}

-- a line with a tuple gives its row, where that is seen
read :
    (columns : List Column) (sees : List ℕ → Result Bool Unknown) (line : ℕ) (tuple : List ℕ) (items : List Item)
    → rows_from columns sees line (normal tuple ∷ items)
    ≡ with_tuple columns line tuple (sees tuple) (rows_from columns sees (line + 1) items)
unfolding rows_from
read columns sees line tuple items = refl

-- the row of a version before others
valued :
    (columns : List Column) (line : ℕ) (tuple : List ℕ) (v : Version) (more : List Version) → v.line ≡ line
    → row_of tuple columns ≡ row_of v.tuple columns
    → with_tuple columns line tuple (Ok true) (rows_of_versions columns more) ≡ rows_of_versions columns (v ∷ more)
unfolding rows_of_versions
valued columns line tuple v more here row =
    ap (λ (n : ℕ). with_values n (row_of tuple columns) (rows_of_versions columns more)) (sym here)
    ∙ ap (λ (r : Result (List Cell) RowRefusal). with_values v.line r (rows_of_versions columns more)) row

-- what is read of the versions of a block, from a line on
pub record ReadsLines (columns : List Column) (sees : List ℕ → Result Bool Unknown) (test : Version → Bool) (vs : List Version) (block line : ℕ) (items : List Item) : Type 0 where
  pub each : (n : ℕ) → ReadsPlace columns sees test (version_at block (line + n) vs) (item_in items n)

module _ (columns : List Column) (sees : List ℕ → Result Bool Unknown) (test : Version → Bool) where
  pub lines_rest :
      (vs : List Version) (block line : ℕ) (item : Item) (items : List Item)
      → ReadsLines columns sees test vs block line (item ∷ items) → ReadsLines columns sees test vs block (line + 1) items
  lines_rest vs block line item items reads =
      record {
        each =
            λ n.
            let at : line + suc n ≡ line + 1 + n = omega arith in
            subst (λ (m : ℕ). ReadsPlace columns sees test (version_at block m vs) (item_in items n)) at (reads.each (suc n));
      }

  -- a line of which no tuple is seen gives nothing
  unseen :
      (line : ℕ) (item : Item) (items : List Item) → ReadsNothing sees item
      → rows_from columns sees line (item ∷ items) ≡ rows_from columns sees (line + 1) items
  unfolding rows_from
  unseen line unused items reads = refl
  unseen line (normal tuple) items reads =
      ap (λ (r : Result Bool Unknown). with_tuple columns line tuple r (rows_from columns sees (line + 1) items)) (reads tuple refl)
  unseen line (redirect to) items reads = refl
  unseen line dead items reads = refl

  -- the row of a version that passes, or nothing
  tested_line :
      (line : ℕ) (t : Bool) (v : Version) (item : Item) (items : List Item) (more : List Version)
      → ReadsTested columns sees t v item → v.line ≡ line → rows_from columns sees (line + 1) items ≡ rows_of_versions columns more
      → rows_from columns sees line (item ∷ items) ≡ rows_of_versions columns (cond t (v ∷ []) [] ++ more)
  tested_line line true v item items more (tuple, is, seen, row) here rest =
      ap (λ (i : Item). rows_from columns sees line (i ∷ items)) is
      ∙ read columns sees line tuple items
      ∙ ap (λ (r : BlockRows). with_tuple columns line tuple (sees tuple) r) rest
      ∙ ap (λ (r : Result Bool Unknown). with_tuple columns line tuple r (rows_of_versions columns more)) seen
      ∙ valued columns line tuple v more here row
  tested_line line false v item items more reads here rest = unseen line item items reads ∙ rest

  first_line :
      (line : ℕ) (o : Option Version) (item : Item) (items : List Item) (more : List Version)
      → ReadsPlace columns sees test o item → ((v : Version) → o ≡ Some v → v.line ≡ line)
      → rows_from columns sees (line + 1) items ≡ rows_of_versions columns more
      → rows_from columns sees line (item ∷ items) ≡ rows_of_versions columns (row_in test o ++ more)
  first_line line None item items more reads here rest = unseen line item items reads ∙ rest
  first_line line (Some v) item items more reads here rest =
      tested_line line (test v) v item items more reads (here v refl) rest

  place_zero :
      (vs : List Version) (block line : ℕ) (item : Item) (items : List Item)
      → ReadsLines columns sees test vs block line (item ∷ items) → ReadsPlace columns sees test (version_at block line vs) item
  place_zero vs block line item items reads =
      let at : line + zero ≡ line = omega arith in
      subst (λ (m : ℕ). ReadsPlace columns sees test (version_at block m vs) item) at (reads.each zero)

  pub lines_scanned :
      (vs : List Version) (block line : ℕ) (items : List Item) → ReadsLines columns sees test vs block line items
      → rows_from columns sees line items ≡ rows_of_versions columns (rows_on test vs block line items)
  unfolding rows_on rows_from rows_of_versions
  lines_scanned vs block line [] reads = refl
  lines_scanned vs block line (item ∷ items) reads =
      first_line line (version_at block line vs) item items (rows_on test vs block (line + 1) items)
      (place_zero vs block line item items reads) (λ v e. (found_at block line vs v e).1)
      (lines_scanned vs block (line + 1) items (lines_rest vs block line item items reads))

  -- the lines of a page are numbered from 1
  pub page_lines :
      (vs : List Version) (block lsn : ℕ) (items : List Item) → ReadsSeen columns sees test vs block (seen_page lsn items)
      → ReadsLines columns sees test vs block 1 items
  page_lines vs block lsn items reads =
      record {
        each =
            λ n.
            let at : suc n ≡ 1 + n = omega arith in
            subst (λ (m : ℕ). ReadsPlace columns sees test (version_at block m vs) (item_in items n)) at (reads (suc n));
      }

  pub seen_scanned :
      (vs : List Version) (block : ℕ) (seen : Seen) → ReadsSeen columns sees test vs block seen
      → block_rows columns sees seen ≡ rows_of_versions columns (rows_in test vs block seen)
  unfolding block_rows rows_in
  seen_scanned vs block absent reads = absurd reads
  seen_scanned vs block bad_block reads = absurd reads
  seen_scanned vs block (seen_page lsn items) reads =
      lines_scanned vs block 1 items (page_lines vs block lsn items reads)
