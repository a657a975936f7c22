-- The loop over the columns of a row.
use Rattle.std.proofs.Common.{◌≡◌, ℕ, ◌+◌, ◌<◌, ◌≤◌, List, [], ◌∷◌, ◌++◌, length, drop, get_or, Result, Ok, Err, refl, sym, ap, ◌∙◌, append_assoc, subst}
use Rattle.std.proofs.lemmas.Bool.{le-leb, lt-leb}
use Rattle.std.proofs.lemmas.List.{append-nil, drop_more, drop_all}
use Rattle.std.specs.Prelude.{unwrap_or}
use Rattle.heap_tuple.specs.declared.cell.Cell.{Cell}
use Rattle.heap_tuple.specs.declared.cell.Cell.TheVariants.{Null}
use Rattle.heap_tuple.specs.declared.cell.Column.{Column}
use Rattle.heap_tuple.specs.Tuple.{columns_of}
use Rattle.heap_tuple.specs.declared.values.ValueRefusal.{ValueRefusal}
use Rattle.heap_tuple.specs.declared.values.ValueRefusal.TheVariants.{Toasted as IsToasted, Bad as IsBad}
use Rattle.heap_tuple.specs.declared.values.RowFault.{RowFault}
use Rattle.heap_tuple.specs.Values.{RowRefusal, SaysRow, stored_column, cells_from, column_value, cell_before, row_from, fault_in, refused_in}

-- the cells that are done, before the rest of a row
abbrev pub after_cells : List Cell → Result (List Cell) RowRefusal → Result (List Cell) RowRefusal
after_cells done (Ok cells) = Ok (done ++ cells)
after_cells done (Err fault) = Err fault

pub after_none : (r : Result (List Cell) RowRefusal) → after_cells [] r ≡ r
after_none (Ok cells) = refl
after_none (Err fault) = refl

after_one_more : (done : List Cell) (cell : Cell) (r : Result (List Cell) RowRefusal) → after_cells done (cell_before cell r) ≡ after_cells (done ++ cell ∷ []) r
after_one_more done cell (Ok cells) = ap (λ xs. Ok xs) (sym (append_assoc done (cell ∷ []) cells))
after_one_more done cell (Err fault) = refl

-- the cells from a column on begin with its own
pub next_column : (tuple : List ℕ) (i at : ℕ) (columns : List Column) (column : Column) → i < length columns → column ≡ get_or columns i column → cells_from tuple i at (drop i columns) ≡ row_from i (column_value tuple i at column) (λ next. cells_from tuple (i + 1) next (drop (i + 1) columns))
unfolding cells_from
next_column tuple i at columns column h e =
    ap (cells_from tuple i at) (drop_more columns i column h)
    ∙ ap (λ x. cells_from tuple i at (x ∷ drop (i + 1) columns)) (sym e)

pub after_column : (tuple : List ℕ) (i at end : ℕ) (columns : List Column) (column : Column) (done : List Cell) (cell : Cell) → i < length columns → column ≡ get_or columns i column → column_value tuple i at column ≡ Ok (cell, end) → after_cells done (cells_from tuple i at (drop i columns)) ≡ after_cells (done ++ cell ∷ []) (cells_from tuple (i + 1) end (drop (i + 1) columns))
after_column tuple i at end columns column done cell h e v =
    ap (after_cells done) (next_column tuple i at columns column h e ∙ ap (λ r. row_from i r (λ next. cells_from tuple (i + 1) next (drop (i + 1) columns))) v)
    ∙ after_one_more done cell (cells_from tuple (i + 1) end (drop (i + 1) columns))

pub after_refusal : (tuple : List ℕ) (i at : ℕ) (columns : List Column) (column : Column) (done : List Cell) (refusal : ValueRefusal) → i < length columns → column ≡ get_or columns i column → column_value tuple i at column ≡ Err refusal → after_cells done (cells_from tuple i at (drop i columns)) ≡ Err (refused_in i refusal)
after_refusal tuple i at columns column done refusal h e v =
    ap (after_cells done) (next_column tuple i at columns column h e ∙ ap (λ r. row_from i r (λ next. cells_from tuple (i + 1) next (drop (i + 1) columns))) v)

pub after_all : (tuple : List ℕ) (i at : ℕ) (columns : List Column) (done : List Cell) → length columns ≤ i → after_cells done (cells_from tuple i at (drop i columns)) ≡ Ok done
unfolding cells_from
after_all tuple i at columns done h =
    ap (λ xs. after_cells done (cells_from tuple i at xs)) (drop_all i columns h) ∙ ap (λ xs. Ok xs) (append-nil done)

-- a column whose cell was put behind the others
pub column_done : (tuple : List ℕ) (i at end : ℕ) (columns : List Column) (column : Column) (done more : List Cell) (cell : Cell) (whole : Result (List Cell) RowRefusal) → i < length columns → column ≡ get_or columns i column → column_value tuple i at column ≡ Ok (cell, end) → after_cells done (cells_from tuple i at (drop i columns)) ≡ whole → more ≡ done ++ cell ∷ [] → after_cells more (cells_from tuple (i + 1) end (drop (i + 1) columns)) ≡ whole
column_done tuple i at end columns column done more cell whole h e value before pushed =
    ap (λ xs. after_cells xs (cells_from tuple (i + 1) end (drop (i + 1) columns))) pushed
    ∙ sym (after_column tuple i at end columns column done cell h e value)
    ∙ before

-- the fault of a row says what it is refused for
pub refusal_says : (i : ℕ) (refusal : ValueRefusal) (whole : Result (List Cell) RowRefusal) → Err (refused_in i refusal) ≡ whole → SaysRow (Err (fault_in i refusal)) whole
refusal_says i IsToasted whole e = sym e
refusal_says i IsBad whole e = sym e

-- a column that is refused
pub column_fault : (tuple : List ℕ) (i at : ℕ) (columns : List Column) (column : Column) (done : List Cell) (refusal : ValueRefusal) (answer : RowFault) (whole : Result (List Cell) RowRefusal) → i < length columns → column ≡ get_or columns i column → column_value tuple i at column ≡ Err refusal → after_cells done (cells_from tuple i at (drop i columns)) ≡ whole → answer ≡ fault_in i refusal → SaysRow (Err answer) whole
column_fault tuple i at columns column done refusal answer whole h e value before is =
    subst (λ (a : RowFault). SaysRow (Err a) whole) (sym is)
    (refusal_says i refusal whole (sym (after_refusal tuple i at columns column done refusal h e value) ∙ before))

-- a column that the tuple does not have, and one that it has
pub missing_column : (tuple : List ℕ) (i at : ℕ) (column : Column) → columns_of tuple ≤ i → column_value tuple i at column ≡ Ok (unwrap_or column.missing Null, at)
unfolding column_value
missing_column tuple i at column past = rw (le-leb (columns_of tuple) i past) refl

pub has_column : (tuple : List ℕ) (i at : ℕ) (column : Column) → i < columns_of tuple → column_value tuple i at column ≡ stored_column tuple i at column.kind
unfolding column_value
has_column tuple i at column within = rw (lt-leb (columns_of tuple) i within) refl
