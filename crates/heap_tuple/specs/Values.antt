-- The values of a tuple's columns (heap_deform_tuple, heaptuple.c; tupmacs.h; varatt.h).
use Rattle.std.specs.Prelude.{◌≡◌, ℕ, ◌+◌, ◌-◌, ◌*◌, ◌/◌, ◌%◌, ◌^◌, Bool, true, false, not, ◌||◌, ◌==◌, nat_le, nat_lt, List, [], ◌∷◌, length, drop, take, slice_index, if◌then◌else◌, Result, Ok, Err, pos, unwrap_or}
use Rattle.std.specs.Int.{cast_signed, w16, w32, w64}
use Rattle.pg_types.specs.Numbers.{number_at, has_bits}
use Rattle.heap_tuple.specs.Tuple.{columns_of, infomask_of, hoff_of}
use Rattle.heap_tuple.specs.declared.cell.Kind.{Kind}
use Rattle.heap_tuple.specs.declared.cell.Kind.TheVariants.{Bool as BoolKind, Int2, Int4, Int8, Oid, Uuid, Text, Bytea, Raw4, Raw8}
use Rattle.heap_tuple.specs.declared.cell.Cell.{Cell}
use Rattle.heap_tuple.specs.declared.cell.Cell.TheVariants.{Null, Bool as BoolCell, Int as IntCell, Bytes as BytesCell}
use Rattle.heap_tuple.specs.declared.cell.Column.{Column}
use Rattle.heap_tuple.specs.declared.values.ValueRefusal.{ValueRefusal}
use Rattle.heap_tuple.specs.declared.values.ValueRefusal.TheVariants.{Toasted as IsToasted, Bad as IsBad}
use Rattle.heap_tuple.specs.declared.values.RowFault.{RowFault}
use Rattle.heap_tuple.specs.declared.values.RowFault.TheVariants.{Toasted, Bad, Memory}

-- where a value is looked for that is wanted at a multiple of n (att_align_nominal)
abbrev pub aligned_to : ℕ → ℕ → ℕ
aligned_to n at = (at + (n - 1)) / n * n

-- a place from `start` up to `end`, if the data reaches so far
abbrev pub within : List ℕ → ℕ → ℕ → Result (ℕ × ℕ) ValueRefusal
within d start end = if nat_le end (length d) then Ok (start, end) else Err IsBad

-- a value of n bytes at a multiple of a
abbrev pub fixed_span : ℕ → ℕ → List ℕ → ℕ → Result (ℕ × ℕ) ValueRefusal
fixed_span n a d at = within d (aligned_to a at) (aligned_to a at + n)

-- a varlena with a header of one byte, of which the length is the upper seven bits and counts it
abbrev pub short_span : List ℕ → ℕ → Result (ℕ × ℕ) ValueRefusal
short_span d at = within d (at + 1) (at + slice_index d at / 2)

-- a varlena with a header of four bytes, of which the length is the upper thirty bits and counts them
abbrev pub long_span : List ℕ → ℕ → Result (ℕ × ℕ) ValueRefusal
long_span d at =
    if nat_lt (number_at 4 d at / 4) 4 then Err IsBad else within d (at + 4) (at + number_at 4 d at / 4)

-- a varlena whose header begins at `at`: a first byte of 1 is that of a pointer to a value outside, the
-- low bits 10 are those of a compressed value
unfoldable pub varlena_at : List ℕ → ℕ → Result (ℕ × ℕ) ValueRefusal
varlena_at d at =
    if nat_le (length d) at then Err IsBad
    else if slice_index d at == 1 then Err IsToasted
    else if slice_index d at % 2 == 1 then short_span d at
    else if nat_lt (length d) (at + 4) then Err IsBad
    else if slice_index d at % 4 == 2 then Err IsToasted
    else long_span d at

-- the next varlena: a zero byte is padding up to a multiple of 4 (att_align_pointer)
abbrev pub varlena_span : List ℕ → ℕ → Result (ℕ × ℕ) ValueRefusal
varlena_span d at = varlena_at d (if slice_index d at == 0 then aligned_to 4 at else at)

-- how many bytes a value of this type has at least
abbrev pub least_width : Kind → ℕ
least_width BoolKind = 1
least_width Int2 = 2
least_width Int4 = 4
least_width Int8 = 8
least_width Oid = 4
least_width Uuid = 16
least_width Text = 0
least_width Bytea = 0
least_width Raw4 = 4
least_width Raw8 = 8

-- where the next value of this type stands in the user data, without its header
unfoldable pub span_of : Kind → List ℕ → ℕ → Result (ℕ × ℕ) ValueRefusal
span_of BoolKind d at = fixed_span 1 1 d at
span_of Int2 d at = fixed_span 2 2 d at
span_of Int4 d at = fixed_span 4 4 d at
span_of Int8 d at = fixed_span 8 8 d at
span_of Oid d at = fixed_span 4 4 d at
span_of Uuid d at = fixed_span 16 1 d at
span_of Text d at = varlena_span d at
span_of Bytea d at = varlena_span d at
span_of Raw4 d at = fixed_span 4 4 d at
span_of Raw8 d at = fixed_span 8 8 d at

-- the truth value of a byte, if it is 0 or 1
abbrev pub truth_of : ℕ → Result Cell ValueRefusal
truth_of byte =
    if byte == 0 then Ok (BoolCell false) else if byte == 1 then Ok (BoolCell true) else Err IsBad

-- the value of this type that these bytes store
unfoldable pub cell_of : Kind → List ℕ → Result Cell ValueRefusal
cell_of BoolKind bytes = truth_of (slice_index bytes 0)
cell_of Int2 bytes = Ok (IntCell (cast_signed w16 (number_at 2 bytes 0)))
cell_of Int4 bytes = Ok (IntCell (cast_signed w32 (number_at 4 bytes 0)))
cell_of Int8 bytes = Ok (IntCell (cast_signed w64 (number_at 8 bytes 0)))
cell_of Oid bytes = Ok (IntCell (pos (number_at 4 bytes 0)))
cell_of Uuid bytes = Ok (BytesCell bytes)
cell_of Text bytes = Ok (BytesCell bytes)
cell_of Bytea bytes = Ok (BytesCell bytes)
cell_of Raw4 bytes = Ok (BytesCell bytes)
cell_of Raw8 bytes = Ok (BytesCell bytes)

-- a cell and where the next value is looked for
abbrev pub ended_at : ℕ → Result Cell ValueRefusal → Result (Cell × ℕ) ValueRefusal
ended_at end (Ok cell) = Ok (cell, end)
ended_at end (Err refusal) = Err refusal

abbrev pub stored_in : Kind → List ℕ → Result (ℕ × ℕ) ValueRefusal → Result (Cell × ℕ) ValueRefusal
stored_in kind d (Ok span) = ended_at span.1 (cell_of kind (take (span.1 - span.0) (drop span.0 d)))
stored_in kind d (Err refusal) = Err refusal

-- the next value of this type in the user data, looked for from `at` on, and its end
abbrev pub value_of : Kind → List ℕ → ℕ → Result (Cell × ℕ) ValueRefusal
value_of kind d at = stored_in kind d (span_of kind d at)

-- whether the tuple has a value in column i: it has no bitmap of nulls (0x0001), or the column's bit
-- in it, from byte 23 on, is set (att_isnull)
unfoldable pub has_value : List ℕ → ℕ → Bool
has_value tuple i =
    not (has_bits (infomask_of tuple) 0x0001)
    || (slice_index tuple (23 + i / 8) / 2 ^ (i % 8) % 2 == 1)

-- column i of a tuple that has it, of this type, whose next value is looked for from `at` on
abbrev pub stored_column : List ℕ → ℕ → ℕ → Kind → Result (Cell × ℕ) ValueRefusal
stored_column tuple i at kind =
    if has_value tuple i then value_of kind (drop (hoff_of tuple) tuple) at
    else Ok (Null, at)

-- column i of a tuple: one past the tuple's count has the value that is described as missing, or null
unfoldable pub column_value : List ℕ → ℕ → ℕ → Column → Result (Cell × ℕ) ValueRefusal
column_value tuple i at column =
    if nat_le (columns_of tuple) i then Ok (unwrap_or column.missing Null, at)
    else stored_column tuple i at column.kind

-- why a row is not given: the value of this column is stored outside or compressed, or is malformed
pub data RowRefusal : Type 0 where
  ToastedIn : ℕ → RowRefusal
  BadIn : ℕ → RowRefusal

-- the refusal of a row whose column i is refused so
abbrev pub refused_in : ℕ → ValueRefusal → RowRefusal
refused_in i IsToasted = ToastedIn i
refused_in i IsBad = BadIn i

-- a cell before the rest of a row
abbrev pub cell_before : Cell → Result (List Cell) RowRefusal → Result (List Cell) RowRefusal
cell_before cell (Ok cells) = Ok (cell ∷ cells)
cell_before cell (Err refusal) = Err refusal

-- a first column, and the rest of the row from where that one ends
abbrev pub row_from : ℕ → Result (Cell × ℕ) ValueRefusal → (ℕ → Result (List Cell) RowRefusal) → Result (List Cell) RowRefusal
row_from i (Ok first) rest = cell_before first.0 (rest first.1)
row_from i (Err refusal) rest = Err (refused_in i refusal)

-- the cells of the columns from number i on, looked for from `at` on; the first that is refused decides
unfoldable pub cells_from : List ℕ → ℕ → ℕ → List Column → Result (List Cell) RowRefusal
cells_from tuple i at [] = Ok []
cells_from tuple i at (column ∷ columns) =
    row_from i (column_value tuple i at column) (λ next. cells_from tuple (i + 1) next columns)

-- the row that a tuple stores for the described columns. More columns than are described are tested
-- first, and are put down to the last described one. Columns are numbered from 0.
unfoldable pub row_of : List ℕ → List Column → Result (List Cell) RowRefusal
row_of tuple columns =
    if nat_lt (length columns) (columns_of tuple) then Err (BadIn (length columns - 1))
    else cells_from tuple 0 0 columns

-- the fault of a row whose column i is refused so
abbrev pub fault_in : ℕ → ValueRefusal → RowFault
fault_in i IsToasted = Toasted i
fault_in i IsBad = Bad i

-- an answer says what the definition gives, unless memory is wanting
abbrev pub SaysRow : Result (List Cell) RowFault → Result (List Cell) RowRefusal → Type 0
SaysRow (Ok cells) expected = expected ≡ Ok cells
SaysRow (Err (Toasted column)) expected = expected ≡ Err (ToastedIn column)
SaysRow (Err (Bad column)) expected = expected ≡ Err (BadIn column)
SaysRow (Err Memory) expected = Unit {0}
