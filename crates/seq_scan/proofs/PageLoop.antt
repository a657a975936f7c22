-- The loop over the lines of a page.
use Rattle.std.proofs.Common.{◌≡◌, ℕ, ◌+◌, ◌<◌, ◌≤◌, Bool, List, [], ◌∷◌, ◌++◌, length, drop, get_or, Result, refl, sym, ap, ◌∙◌, append_assoc, add-one}
use Rattle.std.proofs.lemmas.List.{append-nil, drop_more, drop_all}
use Rattle.pg_types.specs.declared.status.Unknown.{Unknown}
use Rattle.heap_tuple.specs.declared.cell.Cell.{Cell}
use Rattle.heap_tuple.specs.declared.cell.Column.{Column}
use Rattle.heap_page.specs.Item.{Item, unused, normal, redirect, dead, numbered}
use Rattle.seq_scan.specs.BlockRows.{BlockEnd, BlockRows, Whole, ends, with_row, rows_from}
use Rattle.seq_scan.specs.declared.rows.BlockEnd.{BlockEnd as EndRead}
use Rattle.seq_scan.specs.declared.line.Found.{Found}
use Rattle.seq_scan.specs.declared.line.Found.TheVariants.{Nothing, Row, End}
use Rattle.seq_scan.specs.Meaning.{block_end, before, with_item, behind}

-- whether a tuple is seen
abbrev pub Sees : Type 0
Sees = List ℕ → Result Bool Unknown

first_line : (columns : List Column) (sees : Sees) (line : ℕ) (item : Item) (items : List Item) → rows_from columns sees line (item ∷ items) ≡ with_item columns sees line item (rows_from columns sees (line + 1) items)
unfolding rows_from
first_line columns sees line unused items = refl
first_line columns sees line (normal tuple) items = refl
first_line columns sees line (redirect to) items = refl
first_line columns sees line dead items = refl

-- what is found at line k + 1 and then the lines behind it are the lines from there on
abbrev pub IsFound : List Column → Sees → List Item → ℕ → Found → Type 0
IsFound columns sees items k found =
    (rest : BlockRows) → before found rest ≡ with_item columns sees (k + 1) (numbered items (k + 1)) rest

-- the rows of the lines from number k + 1 on
abbrev pub lines_behind : List Column → Sees → List Item → ℕ → BlockRows
lines_behind columns sees items k = rows_from columns sees (k + 1) (drop k items)

numbered_next : (items : List Item) (k : ℕ) → get_or items k unused ≡ numbered items (k + 1)
numbered_next items k = sym (ap (numbered items) (add-one k))

-- the lines from there on are the line and those behind it
pub next_item : (columns : List Column) (sees : Sees) (items : List Item) (k : ℕ) → k < length items → lines_behind columns sees items k ≡ with_item columns sees (k + 1) (numbered items (k + 1)) (lines_behind columns sees items (k + 1))
next_item columns sees items k h =
    ap (rows_from columns sees (k + 1)) (drop_more items k unused h)
    ∙ first_line columns sees (k + 1) (get_or items k unused) (drop (k + 1) items)
    ∙ ap (λ item. with_item columns sees (k + 1) item (lines_behind columns sees items (k + 1))) (numbered_next items k)

next_line : (columns : List Column) (sees : Sees) (items : List Item) (k : ℕ) (found : Found) → k < length items → IsFound columns sees items k found → lines_behind columns sees items k ≡ before found (lines_behind columns sees items (k + 1))
next_line columns sees items k found h is = next_item columns sees items k h ∙ sym (is (lines_behind columns sees items (k + 1)))

-- a line that gives no row
pub nothing_read : (columns : List Column) (sees : Sees) (items : List Item) (k : ℕ) (found : Found) (rows more : List (List Cell)) (whole : BlockRows) → k < length items → IsFound columns sees items k found → behind rows (lines_behind columns sees items k) ≡ whole → found ≡ Nothing → more ≡ rows → behind more (lines_behind columns sees items (k + 1)) ≡ whole
nothing_read columns sees items k found rows more whole h is so_far nothing same =
    ap (λ xs. behind xs (lines_behind columns sees items (k + 1))) same
    ∙ ap (λ f. behind rows (before f (lines_behind columns sees items (k + 1)))) (sym nothing)
    ∙ ap (behind rows) (sym (next_line columns sees items k found h is))
    ∙ so_far

behind_row : (rows : List (List Cell)) (row : List Cell) (rest : BlockRows) → behind (rows ++ row ∷ []) rest ≡ behind rows (with_row row rest)
behind_row rows row rest = ap (λ xs. record { rows = xs; end = rest.end }) (append_assoc rows (row ∷ []) rest.rows)

-- a line whose row was put behind the others
pub row_read : (columns : List Column) (sees : Sees) (items : List Item) (k : ℕ) (found : Found) (rows more : List (List Cell)) (row : List Cell) (whole : BlockRows) → k < length items → IsFound columns sees items k found → behind rows (lines_behind columns sees items k) ≡ whole → found ≡ Row row → more ≡ rows ++ row ∷ [] → behind more (lines_behind columns sees items (k + 1)) ≡ whole
row_read columns sees items k found rows more row whole h is so_far one pushed =
    ap (λ xs. behind xs (lines_behind columns sees items (k + 1))) pushed
    ∙ behind_row rows row (lines_behind columns sees items (k + 1))
    ∙ ap (λ f. behind rows (before f (lines_behind columns sees items (k + 1)))) (sym one)
    ∙ ap (behind rows) (sym (next_line columns sees items k found h is))
    ∙ so_far

behind_end : (rows : List (List Cell)) (end : BlockEnd) → behind rows (ends end) ≡ record { rows = rows; end = end }
behind_end rows end = ap (λ xs. record { rows = xs; end = end }) (append-nil rows)

-- a line that ends the rows
pub end_read : (columns : List Column) (sees : Sees) (items : List Item) (k : ℕ) (found : Found) (rows : List (List Cell)) (end : EndRead) (whole : BlockRows) → k < length items → IsFound columns sees items k found → behind rows (lines_behind columns sees items k) ≡ whole → found ≡ End end → record { rows = rows; end = block_end end } ≡ whole
end_read columns sees items k found rows end whole h is so_far last =
    sym (behind_end rows (block_end end))
    ∙ ap (λ f. behind rows (before f (lines_behind columns sees items (k + 1)))) (sym last)
    ∙ ap (behind rows) (sym (next_line columns sees items k found h is))
    ∙ so_far

-- all lines were read
pub all_read : (columns : List Column) (sees : Sees) (items : List Item) (k : ℕ) (rows : List (List Cell)) (whole : BlockRows) → length items ≤ k → behind rows (lines_behind columns sees items k) ≡ whole → record { rows = rows; end = Whole } ≡ whole
unfolding rows_from
all_read columns sees items k rows whole h so_far =
    sym (behind_end rows Whole)
    ∙ ap (λ xs. behind rows (rows_from columns sees (k + 1) xs)) (sym (drop_all k items h))
    ∙ so_far
