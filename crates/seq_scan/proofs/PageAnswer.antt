-- What the rows of a block are where its page was lent, and where it was not.
use Rattle.std.proofs.Common.{◌≡◌, ℕ, Bool, true, false, cond, List, Option, Some, None, Result, Ok, Err, IfOk, refl, sym, ap, ◌∙◌}
use Rattle.std.proofs.lemmas.Result.{IfOk-weaker}
use Rattle.std.specs.Borrow.{Bor}
use Rattle.pg_types.specs.declared.status.Unknown.{Unknown}
use Rattle.heap_tuple.specs.declared.cell.Column.{Column}
use Rattle.heap_page.specs.Page.{is_page, lsn_of, items_of}
use Rattle.page_store.specs.declared.pool.PoolFault.{PoolFault}
use Rattle.page_store.specs.declared.pool.PoolFault.TheVariants.{BadPage}
use Rattle.page_store.specs.Content.{page_answer, lent_to_read as read}
use Rattle.page_store.specs.Seen.{bad_block, seen_page, seen}
use Rattle.pg_types.specs.declared.fail.NoMemory.{NoMemory}
use Rattle.seq_scan.specs.declared.rows.BlockRows.{BlockRows as RowsRead}
use Rattle.seq_scan.specs.Meaning.{block_end, meaning}
use Rattle.seq_scan.specs.Printed.{printed_rows}
use Rattle.seq_scan.specs.declared.rows.BlockEnd.{BlockEnd as EndRead}
use Rattle.std.proofs.lemmas.List.{append-nil}
use Rattle.seq_scan.specs.BlockRows.{NoPage, ends, block_rows, rows_from}

lent_page : (v : Bool) (bytes page : List ℕ) → Ok page ≡ cond v (Ok bytes) (Err BadPage) → (v ≡ true) × (page ≡ bytes)
lent_page true bytes page e = (refl, cc)
lent_page false bytes page e = cc

not_lent : (v : Bool) (bytes : List ℕ) (fault : PoolFault) → Err fault ≡ cond v (Ok bytes) (Err BadPage) → v ≡ false
not_lent true bytes fault e = cc
not_lent false bytes fault e = refl

module _ (columns : List Column) (sees : List ℕ → Result Bool Unknown) where
  rows_of : (block : Option (List ℕ)) (page : List ℕ) → Ok page ≡ page_answer block → rows_from columns sees 1 (items_of page) ≡ block_rows columns sees (seen block)
  unfolding page_answer seen block_rows
  rows_of None page e = cc
  rows_of (Some bytes) page e =
      let lent = lent_page (is_page bytes) bytes page e in
      ap (λ b. rows_from columns sees 1 (items_of b)) lent.1
      ∙ ap (λ v. block_rows columns sees (cond v (seen_page (lsn_of bytes) (items_of bytes)) bad_block)) (sym lent.0)

  none_of : (block : Option (List ℕ)) (fault : PoolFault) → Err fault ≡ page_answer block → ends NoPage ≡ block_rows columns sees (seen block)
  unfolding page_answer seen block_rows
  none_of None fault e = refl
  none_of (Some bytes) fault e =
      ap (λ v. block_rows columns sees (cond v (seen_page (lsn_of bytes) (items_of bytes)) bad_block)) (sym (not_lent (is_page bytes) bytes fault e))

  -- the rows of a page that is lent are those of its block
  pub rows_read : (block : Option (List ℕ)) (result : Result (Bor (List ℕ)) PoolFault) (page : Bor (List ℕ)) (r : Result RowsRead NoMemory) → read result ≡ page_answer block → result ≡ Ok page → IfOk r (λ b. meaning b ≡ rows_from columns sees 1 (items_of page.now)) → IfOk r (λ b. meaning b ≡ block_rows columns sees (seen block))
  rows_read block result page r answer e rows =
      let same : rows_from columns sees 1 (items_of page.now) ≡ block_rows columns sees (seen block) = rows_of block page.now (ap read (sym e) ∙ answer) in
      IfOk-weaker r _ _ (λ b is. is ∙ same) rows

  -- a block whose page is not lent has no rows
  pub none_read : (block : Option (List ℕ)) (result : Result (Bor (List ℕ)) PoolFault) (fault : PoolFault) (r : Result RowsRead NoMemory) → read result ≡ page_answer block → result ≡ Err fault → IfOk r (λ b. meaning b ≡ ends NoPage) → IfOk r (λ b. meaning b ≡ block_rows columns sees (seen block))
  none_read block result fault (Ok b) answer e rows = rows ∙ none_of block fault (ap read (sym e) ∙ answer)
  none_read block result fault (Err out) answer e rows = rows

  -- the lines of a page that is lent are those of its block
  pub rows_printed : (head text new : List ℕ) (block : Option (List ℕ)) (result : Result (Bor (List ℕ)) PoolFault) (page : Bor (List ℕ)) (r : Result EndRead NoMemory) → read result ≡ page_answer block → result ≡ Ok page → IfOk r (λ end. (new, block_end end) ≡ printed_rows head columns text (rows_from columns sees 1 (items_of page.now))) → IfOk r (λ end. (new, block_end end) ≡ printed_rows head columns text (block_rows columns sees (seen block)))
  rows_printed head text new block result page r answer e rows =
      let same : rows_from columns sees 1 (items_of page.now) ≡ block_rows columns sees (seen block) = rows_of block page.now (ap read (sym e) ∙ answer) in
      IfOk-weaker r _ _ (λ end is. is ∙ ap (printed_rows head columns text) same) rows

  -- a block whose page is not lent prints no lines
  pub none_printed : (head text : List ℕ) (block : Option (List ℕ)) (result : Result (Bor (List ℕ)) PoolFault) (fault : PoolFault) (r : Result EndRead NoMemory) → read result ≡ page_answer block → result ≡ Err fault → IfOk r (λ end. block_end end ≡ NoPage) → IfOk r (λ end. (text, block_end end) ≡ printed_rows head columns text (block_rows columns sees (seen block)))
  none_printed head text block result fault (Ok end) answer e ends_so =
      ap (λ last. (text, last)) ends_so
      ∙ ap (λ (t : List ℕ). (t, NoPage)) (sym (append-nil text))
      ∙ ap (printed_rows head columns text) (none_of block fault (ap read (sym e) ∙ answer))
  none_printed head text block result fault (Err out) answer e ends_so = ends_so
