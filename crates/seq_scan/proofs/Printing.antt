-- The loop that prints the lines of a page.
use Rattle.std.proofs.Common.{◌≡◌, ◌∙◌, ℕ, ◌+◌, ◌<◌, ◌≤◌, List, length, Option, None, Some, sym, ap}
use Rattle.std.proofs.lemmas.List.{append-nil, drop_all}
use Rattle.heap_tuple.specs.declared.cell.Column.{Column}
use Rattle.heap_page.specs.Item.{Item, numbered}
use Rattle.seq_scan.specs.BlockRows.{BlockEnd, BlockRows, Whole, rows_from}
use Rattle.seq_scan.specs.declared.rows.BlockEnd.{BlockEnd as EndRead}
use Rattle.seq_scan.specs.Meaning.{block_end, with_item}
use Rattle.seq_scan.specs.Printed.{printed_before, printed_rows}
use Rattle.seq_scan.proofs.PageLoop.{Sees, lines_behind, next_item}

-- what line k + 1 has printed, and then the lines behind it, are the lines from there on
abbrev pub IsPrinted : List ℕ → List Column → Sees → List Item → ℕ → List ℕ → List ℕ → Option EndRead → Type 0
IsPrinted head columns sees items k text more found =
    (rest : BlockRows) → printed_before head columns more found rest ≡ printed_rows head columns text (with_item columns sees (k + 1) (numbered items (k + 1)) rest)

line_printed : (head : List ℕ) (columns : List Column) (sees : Sees) (items : List Item) (k : ℕ) (text more : List ℕ) (found : Option EndRead) → k < length items → IsPrinted head columns sees items k text more found → printed_before head columns more found (lines_behind columns sees items (k + 1)) ≡ printed_rows head columns text (lines_behind columns sees items k)
line_printed head columns sees items k text more found h is =
    is (lines_behind columns sees items (k + 1))
    ∙ ap (printed_rows head columns text) (sym (next_item columns sees items k h))

-- a line behind which others come
pub line_goes_on : (head : List ℕ) (columns : List Column) (sees : Sees) (items : List Item) (k : ℕ) (text more : List ℕ) (found : Option EndRead) (whole : List ℕ × BlockEnd) → k < length items → IsPrinted head columns sees items k text more found → printed_rows head columns text (lines_behind columns sees items k) ≡ whole → found ≡ None → printed_rows head columns more (lines_behind columns sees items (k + 1)) ≡ whole
line_goes_on head columns sees items k text more found whole h is so_far none =
    ap (λ f. printed_before head columns more f (lines_behind columns sees items (k + 1))) (sym none)
    ∙ line_printed head columns sees items k text more found h is
    ∙ so_far

-- a line that ends the rows
pub line_ends : (head : List ℕ) (columns : List Column) (sees : Sees) (items : List Item) (k : ℕ) (text more : List ℕ) (found : Option EndRead) (end : EndRead) (whole : List ℕ × BlockEnd) → k < length items → IsPrinted head columns sees items k text more found → printed_rows head columns text (lines_behind columns sees items k) ≡ whole → found ≡ Some end → (more, block_end end) ≡ whole
line_ends head columns sees items k text more found end whole h is so_far last =
    ap (λ f. printed_before head columns more f (lines_behind columns sees items (k + 1))) (sym last)
    ∙ line_printed head columns sees items k text more found h is
    ∙ so_far

-- all lines were printed
pub page_printed : (head : List ℕ) (columns : List Column) (sees : Sees) (items : List Item) (k : ℕ) (text : List ℕ) → length items ≤ k → (text, Whole) ≡ printed_rows head columns text (lines_behind columns sees items k)
unfolding rows_from
page_printed head columns sees items k text h =
    sym (ap (λ xs. printed_rows head columns text (rows_from columns sees (k + 1) xs)) (drop_all k items h)
    ∙ ap (λ (t : List ℕ). (t, Whole)) (append-nil text))
