-- The loop that prints the values of a tuple.
use Rattle.std.proofs.Common.{◌≡◌, ◌∙◌, ℕ, ◌+◌, ◌<◌, ◌≤◌, List, [], ◌∷◌, ◌++◌, length, drop, take, get_or, Result, Ok, Err, refl, sym, ap, append_assoc, arith}
use Rattle.std.proofs.lemmas.Bool.{ne_eqb}
use Rattle.std.proofs.lemmas.List.{append-nil, drop_all, drop_more, length-take, take-append-le}
use Rattle.heap_tuple.specs.declared.cell.Cell.{Cell}
use Rattle.heap_tuple.specs.declared.cell.Column.{Column}
use Rattle.heap_tuple.specs.declared.values.ValueRefusal.{ValueRefusal}
use Rattle.heap_tuple.specs.Values.{RowRefusal, SaysRow, cell_before, cells_from, column_value, fault_in, refused_in, row_from}
use Rattle.heap_tuple.proofs.RowLoop.{next_column, refusal_says}
use Rattle.table_schema.specs.RowText.{cell_text, further_text, printed, row_text, tab_before}

-- the text of the columns from number i on
abbrev pub text_from : ℕ → List Column → List Cell → List ℕ
text_from i [] cells = []
text_from i (column ∷ columns) [] = []
text_from i (column ∷ columns) (cell ∷ cells) = (tab_before i ++ cell_text column.kind cell) ++ text_from (i + 1) columns cells

-- what stands there once these columns were printed too
abbrev pub finish : List ℕ → ℕ → List Column → Result (List Cell) RowRefusal → Result (List ℕ) RowRefusal
finish done i columns (Ok cells) = Ok (done ++ text_from i columns cells)
finish done i columns (Err refusal) = Err refusal

further : (i : ℕ) (columns : List Column) (cells : List Cell) → 0 < i → text_from i columns cells ≡ further_text columns cells
further i [] cells h = refl
further i (column ∷ columns) [] h = refl
further i (column ∷ columns) (cell ∷ cells) h =
    rw (ne_eqb i 0 (λ e. omega (arith, e, h))) (ap (λ text. 9 ∷ (cell_text column.kind cell ++ text)) (further (i + 1) columns cells (omega arith)))

from_first : (columns : List Column) (cells : List Cell) → text_from 0 columns cells ≡ row_text columns cells
from_first [] cells = refl
from_first (column ∷ columns) [] = refl
from_first (column ∷ columns) (cell ∷ cells) = ap (λ text. cell_text column.kind cell ++ text) (further 1 columns cells (omega arith))

-- all columns
pub all_columns : (columns : List Column) (old : List ℕ) (row : Result (List Cell) RowRefusal) → finish old 0 columns row ≡ printed columns old row
all_columns columns old (Ok cells) = ap (λ text. Ok (old ++ text)) (from_first columns cells)
all_columns columns old (Err refusal) = refl

one_more : (done : List ℕ) (i : ℕ) (column : Column) (columns : List Column) (cell : Cell) (row : Result (List Cell) RowRefusal) → finish (done ++ (tab_before i ++ cell_text column.kind cell)) (i + 1) columns row ≡ finish done i (column ∷ columns) (cell_before cell row)
one_more done i column columns cell (Ok cells) =
    ap (λ text. Ok text) (append_assoc done (tab_before i ++ cell_text column.kind cell) (text_from (i + 1) columns cells))
one_more done i column columns cell (Err refusal) = refl

columns_at : (i : ℕ) (columns : List Column) (column : Column) → i < length columns → column ≡ get_or columns i column → drop i columns ≡ column ∷ drop (i + 1) columns
columns_at i columns column h e = drop_more columns i column h ∙ ap (λ x. x ∷ drop (i + 1) columns) (sym e)

-- a column whose value was printed
pub column_printed : (tuple : List ℕ) (i at end : ℕ) (columns : List Column) (column : Column) (done more : List ℕ) (cell : Cell) (whole : Result (List ℕ) RowRefusal) → i < length columns → column ≡ get_or columns i column → column_value tuple i at column ≡ Ok (cell, end) → finish done i (drop i columns) (cells_from tuple i at (drop i columns)) ≡ whole → more ≡ done ++ (tab_before i ++ cell_text column.kind cell) → finish more (i + 1) (drop (i + 1) columns) (cells_from tuple (i + 1) end (drop (i + 1) columns)) ≡ whole
column_printed tuple i at end columns column done more cell whole h e value before pushed =
    let rest = drop (i + 1) columns in
    ap (λ text. finish text (i + 1) rest (cells_from tuple (i + 1) end rest)) pushed
    ∙ one_more done i column rest cell (cells_from tuple (i + 1) end rest)
    ∙ ap (λ r. finish done i (column ∷ rest) (row_from i r (λ next. cells_from tuple (i + 1) next rest))) (sym value)
    ∙ ap (finish done i (column ∷ rest)) (sym (next_column tuple i at columns column h e))
    ∙ ap (λ xs. finish done i xs (cells_from tuple i at (drop i columns))) (sym (columns_at i columns column h e))
    ∙ before

-- a text is refused where its row is
row_refused : (columns : List Column) (old : List ℕ) (row : Result (List Cell) RowRefusal) (refusal : RowRefusal) → printed columns old row ≡ Err refusal → row ≡ Err refusal
row_refused columns old (Ok cells) refusal e = grind (arith, e)
row_refused columns old (Err other) refusal e = grind (arith, e)

-- a column that is refused
pub column_refused : (tuple : List ℕ) (i at : ℕ) (columns : List Column) (column : Column) (done old : List ℕ) (refusal : ValueRefusal) (row : Result (List Cell) RowRefusal) → i < length columns → column ≡ get_or columns i column → column_value tuple i at column ≡ Err refusal → finish done i (drop i columns) (cells_from tuple i at (drop i columns)) ≡ printed columns old row → SaysRow (Err (fault_in i refusal)) row
column_refused tuple i at columns column done old refusal row h e value before =
    let refused : printed columns old row ≡ Err (refused_in i refusal) =
    sym before
    ∙ ap (finish done i (drop i columns)) (next_column tuple i at columns column h e)
    ∙ ap (λ r. finish done i (drop i columns) (row_from i r (λ next. cells_from tuple (i + 1) next (drop (i + 1) columns)))) value in
    refusal_says i refusal row (sym (row_refused columns old row (refused_in i refusal) refused))

-- no column is left
pub none_left : (tuple : List ℕ) (i at : ℕ) (columns : List Column) (done : List ℕ) → length columns ≤ i → finish done i (drop i columns) (cells_from tuple i at (drop i columns)) ≡ Ok done
unfolding cells_from
none_left tuple i at columns done h =
    ap (λ xs. finish done i xs (cells_from tuple i at xs)) (drop_all i columns h) ∙ ap (λ xs. Ok xs) (append-nil done)

-- what stood there first stays
pub still_kept : (old done more text : List ℕ) → take (length old) done ≡ old → more ≡ done ++ text → take (length old) more ≡ old
still_kept old done more text kept pushed =
    ap (take (length old)) pushed
    ∙ take-append-le (length old) done text (omega (arith, length-take (length old) done, ap length kept))
    ∙ kept
