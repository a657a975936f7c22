-- Two tuples that store the same, with the user data behind the header, have the same row.
use Rattle.std.proofs.Common.{◌≡◌, ℕ, ◌+◌, ◌-◌, ◌/◌, ◌≤◌, List, [], ◌∷◌, drop, get_or, Result, Ok, Err, arith, refl, sym, ap, ◌∙◌, subst}
use Rattle.std.proofs.lemmas.List.{get_or-drop, drop-drop}
use Rattle.heap_tuple.specs.Tuple.{hoff_of}
use Rattle.heap_tuple.proofs.SameTuples.{same_hoff}
use Rattle.heap_tuple.specs.Values.{RowRefusal, has_value, column_value, row_from, cell_before, cells_from, row_of}
use Rattle.heap_tuple.specs.declared.cell.Cell.{Cell}
use Rattle.heap_tuple.specs.declared.cell.Column.{Column}
use Rattle.heap_tuple.specs.declared.values.ValueRefusal.{ValueRefusal}
use Rattle.row_model.specs.Shows.{StoresSame}

byte_same :
    (tuple written : List ℕ) (k : ℕ) → drop 22 tuple ≡ drop 22 written → get_or tuple (23 + k) 0 ≡ get_or written (23 + k) 0
byte_same tuple written k e =
    let at : 22 + (1 + k) ≡ 23 + k = omega arith in
    subst (λ (n : ℕ). get_or tuple n 0 ≡ get_or written n 0) at
    (sym (get_or-drop 22 tuple (1 + k) 0) ∙ ap (λ (d : List ℕ). get_or d (1 + k) 0) e ∙ get_or-drop 22 written (1 + k) 0)

-- the bytes from a place behind the header on
data_same : (tuple written : List ℕ) (h : ℕ) → 23 ≤ h → drop 22 tuple ≡ drop 22 written → drop h tuple ≡ drop h written
data_same tuple written h behind e =
    let at : 22 + (h - 22) ≡ h = omega arith in
    subst (λ (n : ℕ). drop n tuple ≡ drop n written) at
    (sym (drop-drop (h - 22) 22 tuple) ∙ ap (λ (d : List ℕ). drop (h - 22) d) e ∙ drop-drop (h - 22) 22 written)

user_data_same :
    (tuple written : List ℕ) → 23 ≤ hoff_of written → drop 22 tuple ≡ drop 22 written
    → drop (hoff_of tuple) tuple ≡ drop (hoff_of written) written
user_data_same tuple written behind e =
    ap (λ (h : ℕ). drop h tuple) (same_hoff tuple written e) ∙ data_same tuple written (hoff_of written) behind e

has_value_same : (tuple written : List ℕ) (i : ℕ) → StoresSame tuple written → has_value tuple i ≡ has_value written i
unfolding has_value
has_value_same tuple written i same =
    let byte = byte_same tuple written (i / 8) same.bytes in
    let nulls = same.nulls in
    cc

column_same :
    (tuple written : List ℕ) (i at : ℕ) (column : Column) → StoresSame tuple written → 23 ≤ hoff_of written
    → column_value tuple i at column ≡ column_value written i at column
unfolding column_value
column_same tuple written i at column same behind =
    let some = has_value_same tuple written i same in
    let d = user_data_same tuple written behind same.bytes in
    let count = same.columns in
    cc

rest_same :
    (i : ℕ) (r : Result (Cell × ℕ) ValueRefusal) (f g : ℕ → Result (List Cell) RowRefusal) → ((next : ℕ) → f next ≡ g next)
    → row_from i r f ≡ row_from i r g
rest_same i (Ok first) f g same = ap (cell_before first.0) (same first.1)
rest_same i (Err refusal) f g same = refl

cells_same :
    (tuple written : List ℕ) (i at : ℕ) (columns : List Column) → StoresSame tuple written → 23 ≤ hoff_of written
    → cells_from tuple i at columns ≡ cells_from written i at columns
unfolding cells_from
cells_same tuple written i at [] same behind = refl
cells_same tuple written i at (column ∷ columns) same behind =
    ap (λ (r : Result (Cell × ℕ) ValueRefusal). row_from i r (λ next. cells_from tuple (i + 1) next columns))
    (column_same tuple written i at column same behind)
    ∙ rest_same i (column_value written i at column) (λ next. cells_from tuple (i + 1) next columns)
    (λ next. cells_from written (i + 1) next columns)
    (λ next. cells_same tuple written (i + 1) next columns same behind)

pub row_same :
    (tuple written : List ℕ) (columns : List Column) → StoresSame tuple written → 23 ≤ hoff_of written
    → row_of tuple columns ≡ row_of written columns
unfolding row_of
row_same tuple written columns same behind =
    let cells = cells_same tuple written 0 0 columns same behind in
    let count = same.columns in
    cc
