-- How a row is printed: as COPY .. TO STDOUT prints it in its text format (copyto.c), but that of the control
-- characters only tab, newline and return are escaped.
use Rattle.std.specs.Prelude.{ℕ, ◌+◌, ◌/◌, ◌%◌, false, ◌||◌, ◌==◌, List, [], ◌∷◌, ◌++◌, codes, Result, Ok, Err, if◌then◌else◌}
use Rattle.std.specs.List.{flat_map}
use Rattle.std.specs.Fmt.{signed_decimal, digit_glyph}
use Rattle.heap_tuple.specs.Values.{RowRefusal}
use Rattle.heap_tuple.specs.declared.cell.Cell.{Cell}
use Rattle.heap_tuple.specs.declared.cell.Cell.TheVariants.{Null, Bool as BoolCell, Int as IntCell, Bytes as BytesCell}
use Rattle.heap_tuple.specs.declared.cell.Column.{Column}
use Rattle.heap_tuple.specs.declared.cell.Kind.{Kind}
use Rattle.heap_tuple.specs.declared.cell.Kind.TheVariants.{Bool as BoolKind, Int2, Int4, Int8, Oid, Uuid, Text, Bytea, Raw4, Raw8}

-- a byte of a text, where backslash, tab, newline and return are escaped (CopyAttributeOutText)
abbrev pub escaped_byte : ℕ → List ℕ
escaped_byte b =
    if b == 92 then 92 ∷ 92 ∷ []
    else if b == 9 then 92 ∷ 116 ∷ []
    else if b == 10 then 92 ∷ 110 ∷ []
    else if b == 13 then 92 ∷ 114 ∷ []
    else b ∷ []

-- a byte as two lower-case hex digits
abbrev pub hex_byte : ℕ → List ℕ
hex_byte b = digit_glyph false (b / 16) ∷ digit_glyph false (b % 16) ∷ []

-- a uuid's groups of 8, 4, 4, 4 and 12 digits have a dash between them (uuid_out, uuid.c)
abbrev pub dash_before : ℕ → List ℕ
dash_before i = if ((i == 4 || i == 6) || i == 8) || i == 10 then 45 ∷ [] else []

abbrev pub uuid_from : ℕ → List ℕ → List ℕ
uuid_from i [] = []
uuid_from i (b ∷ bytes) = (dash_before i ++ hex_byte b) ++ uuid_from (i + 1) bytes

-- a value of bytes: a uuid; hex behind `\x` (byteaout, varlena.c); the bytes as they are stored, in hex; or a text.
-- The other types have no such values.
unfoldable pub bytes_text : Kind → List ℕ → List ℕ
bytes_text Uuid bytes = uuid_from 0 bytes
bytes_text Bytea bytes = 92 ∷ 120 ∷ flat_map hex_byte bytes
bytes_text Raw4 bytes = flat_map hex_byte bytes
bytes_text Raw8 bytes = flat_map hex_byte bytes
bytes_text Text bytes = flat_map escaped_byte bytes
bytes_text BoolKind bytes = flat_map escaped_byte bytes
bytes_text Int2 bytes = flat_map escaped_byte bytes
bytes_text Int4 bytes = flat_map escaped_byte bytes
bytes_text Int8 bytes = flat_map escaped_byte bytes
bytes_text Oid bytes = flat_map escaped_byte bytes

-- a value of a column of this type: `\N` where it is null, `t` or `f`, a decimal number, or what its bytes print
unfoldable pub cell_text : Kind → Cell → List ℕ
cell_text kind Null = 92 ∷ 78 ∷ []
cell_text kind (BoolCell value) = if value then codes "t" else codes "f"
cell_text kind (IntCell value) = signed_decimal value
cell_text kind (BytesCell bytes) = bytes_text kind bytes

-- further values of a row, each behind a tab
abbrev pub further_text : List Column → List Cell → List ℕ
further_text [] cells = []
further_text (column ∷ columns) [] = []
further_text (column ∷ columns) (cell ∷ cells) = (9 ∷ cell_text column.kind cell) ++ further_text columns cells

-- a row's values, with a tab between them
abbrev pub row_text : List Column → List Cell → List ℕ
row_text [] cells = []
row_text (column ∷ columns) [] = []
row_text (column ∷ columns) (cell ∷ cells) = cell_text column.kind cell ++ further_text columns cells

-- what stands there once the row that a tuple stores was printed behind a text, unless the row is refused
abbrev pub printed : List Column → List ℕ → Result (List Cell) RowRefusal → Result (List ℕ) RowRefusal
printed columns text (Ok cells) = Ok (text ++ row_text columns cells)
printed columns text (Err refusal) = Err refusal

-- a tab before each column but the first
abbrev pub tab_before : ℕ → List ℕ
tab_before i = if i == 0 then [] else 9 ∷ []
