-- What a description's text says, or the first test that it fails. The tests go in the order of the text's tables
-- and columns, and in each of these in the order of the keys; a key that a level does not have comes last of its
-- level, whether a value repeats is tested right after its key, and the number of tables right after `table`.
use Rattle.std.specs.Prelude.{ℕ, ◌+◌, ◌≡◌, ◌≢◌, ℤ, pos, negsuc, Bool, true, false, not, ◌&&◌, ◌||◌, ◌==◌, List, [], ◌∷◌, ◌++◌, length, Option, Some, None, Result, Ok, Err, is_some, nat_eq, nat_le, nat_lt, int_le, option_map, option_and_then, ok_or, codes, IsUtf8, if◌then◌else◌}
use Rattle.std.specs.List.{list_all}
use Rattle.std.specs.Cmp.Lexicographic.{pointwise}
use Rattle.toml.specs.Data.{Data, Items, no_items, item, Members, no_members, member, get_member, as_str, as_integer, as_bool, as_array, as_table}
use Rattle.toml.specs.Parse.{parse_document}
use Rattle.heap_tuple.specs.declared.cell.Cell.{Cell}
use Rattle.heap_tuple.specs.declared.cell.Cell.TheVariants.{Bool as BoolCell, Int as IntCell, Bytes as BytesCell}
use Rattle.heap_tuple.specs.declared.cell.Column.{Column}
use Rattle.heap_tuple.specs.declared.cell.Kind.{Kind}
use Rattle.heap_tuple.specs.declared.cell.Kind.TheVariants.{Bool as BoolKind, Int2, Int4, Int8, Oid as OidKind, Uuid, Text, Bytea, Raw4, Raw8}
use Rattle.table_schema.specs.declared.fault.Key.{Key}
use Rattle.table_schema.specs.declared.fault.Key.TheVariants.{Database, Table, Name, Oid, File, Column as ColumnKey, Kind as KindKey, Missing, Other}
use Rattle.table_schema.specs.declared.fault.SchemaFault.{SchemaFault}
use Rattle.table_schema.specs.declared.fault.SchemaFault.TheVariants.{TooLong, Toml, Field, Twice, Many, Memory}
use Rattle.table_schema.specs.declared.members.Level.{Level}
use Rattle.table_schema.specs.declared.members.Level.TheVariants.{Top, OfTable, OfColumn}
use Rattle.table_schema.specs.Description.{Description, DescribedTable, first_that, is_named, has_oid, has_file}

-- what follows a step that gives a value; the first refusal decides
infixl 10 ◌>>=◌
abbrev pub ◌>>=◌ : {A B : Type 0} → Result A SchemaFault → (A → Result B SchemaFault) → Result B SchemaFault
Ok x >>= f = f x
Err fault >>= f = Err fault

-- a number from 1 to 2^32 - 1
abbrev pub number_of : ℤ → Option ℕ
number_of (pos n) = if nat_le 1 n && nat_le n 4294967295 then Some n else None
number_of (negsuc n) = None

unfoldable pub number_in : ℕ → Key → List ℕ → Members → Result ℕ SchemaFault
number_in table key word members =
    ok_or (option_and_then number_of (option_and_then as_integer (get_member word members))) (Field table key)

-- a name has 1 to 63 bytes, without space or control characters
abbrev pub is_name_byte : ℕ → Bool
is_name_byte byte = nat_lt 32 byte && not (byte == 127)

unfoldable pub is_name : List ℕ → Bool
is_name text = (nat_le 1 (length text) && nat_le (length text) 63) && list_all is_name_byte text

abbrev pub name_if : List ℕ → Option (List ℕ)
name_if text = if is_name text then Some text else None

unfoldable pub name_in : ℕ → Members → Result (List ℕ) SchemaFault
name_in table members =
    ok_or (option_and_then name_if (option_and_then as_str (get_member (codes "name") members))) (Field table Name)

abbrev pub same_name : List ℕ → List ℕ → Bool
same_name name other = pointwise nat_eq other name

-- the types that are described (pg_type.typname); raw4 and raw8 are this program's own
unfoldable pub kind_of : List ℕ → Option Kind
kind_of word =
    if pointwise nat_eq word (codes "bool") then Some BoolKind
    else if pointwise nat_eq word (codes "int2") then Some Int2
    else if pointwise nat_eq word (codes "int4") then Some Int4
    else if pointwise nat_eq word (codes "int8") then Some Int8
    else if pointwise nat_eq word (codes "oid") then Some OidKind
    else if pointwise nat_eq word (codes "uuid") then Some Uuid
    else if pointwise nat_eq word (codes "text") then Some Text
    else if pointwise nat_eq word (codes "bytea") then Some Bytea
    else if pointwise nat_eq word (codes "raw4") then Some Raw4
    else if pointwise nat_eq word (codes "raw8") then Some Raw8
    else None

unfoldable pub kind_in : ℕ → Members → Result Kind SchemaFault
kind_in table members =
    ok_or (option_and_then kind_of (option_and_then as_str (get_member (codes "type") members))) (Field table KindKey)

-- an integer between these
abbrev pub between : ℤ → ℤ → ℤ → Option Cell
between least greatest z = if int_le least z && int_le z greatest then Some (IntCell z) else None

abbrev pub int_cell : ℤ → ℤ → Data → Option Cell
int_cell least greatest value = option_and_then (between least greatest) (as_integer value)

-- the value that older tuples have in a column of this type: an integer in the type's range, a truth value or a string
unfoldable pub cell_from : Kind → Data → Option Cell
cell_from BoolKind value = option_map BoolCell (as_bool value)
cell_from Int2 value = int_cell (negsuc 32767) (pos 32767) value
cell_from Int4 value = int_cell (negsuc 2147483647) (pos 2147483647) value
cell_from Int8 value = int_cell (negsuc 9223372036854775807) (pos 9223372036854775807) value
cell_from OidKind value = int_cell (pos 0) (pos 4294967295) value
cell_from Text value = option_map BytesCell (as_str value)
cell_from Uuid value = None
cell_from Bytea value = None
cell_from Raw4 value = None
cell_from Raw8 value = None

-- a column need not have one, which is null then
abbrev pub missing_of : Kind → Option Data → Option (Option Cell)
missing_of kind None = Some None
missing_of kind (Some value) = option_map Some (cell_from kind value)

unfoldable pub missing_in : ℕ → Kind → Members → Result (Option Cell) SchemaFault
missing_in table kind members =
    ok_or (missing_of kind (get_member (codes "missing") members)) (Field table Missing)

-- the keys of a level
unfoldable pub is_key : Level → List ℕ → Bool
is_key Top word = pointwise nat_eq word (codes "database") || pointwise nat_eq word (codes "table")
is_key OfTable word =
    pointwise nat_eq word (codes "name") || pointwise nat_eq word (codes "oid")
    || pointwise nat_eq word (codes "file") || pointwise nat_eq word (codes "column")
is_key OfColumn word =
    pointwise nat_eq word (codes "name") || pointwise nat_eq word (codes "type")
    || pointwise nat_eq word (codes "missing")

abbrev pub has_other : Level → Members → Bool
has_other level no_members = false
has_other level (member word value members) = if is_key level word then has_other level members else true

abbrev pub count_items : Items → ℕ
count_items no_items = 0
count_items (item value items) = count_items items + 1

abbrev pub array_in : ℕ → Key → List ℕ → Members → Result Items SchemaFault
array_in table key word members = ok_or (option_and_then as_array (get_member word members)) (Field table key)

-- a column, by the names of those before it in its table
unfoldable pub column_in : ℕ → List (List ℕ) → Members → Result (List ℕ × Column) SchemaFault
column_in table names members =
    name_in table members >>= (λ name.
    if is_some (first_that (same_name name) 0 names) then Err (Twice name) else
    kind_in table members >>= (λ kind.
    missing_in table kind members >>= (λ missing.
    if has_other OfColumn members then Err (Field table Other)
    else Ok (name, record { kind = kind; missing = missing }))))

-- the column that a value describes
abbrev pub column_of : ℕ → List (List ℕ) → Data → Result (List ℕ × Column) SchemaFault
column_of table names value = ok_or (as_table value) (Field table ColumnKey) >>= column_in table names

-- columns behind those that were read
unfoldable pub columns_from : ℕ → List (List ℕ) → List Column → Items → Result (List (List ℕ) × List Column) SchemaFault
columns_from table names columns no_items = Ok (names, columns)
columns_from table names columns (item value items) =
    column_of table names value >>= (λ column.
    columns_from table (names ++ column.0 ∷ []) (columns ++ column.1 ∷ []) items)

-- 1 to 1600 columns (MaxHeapAttributeNumber, htup_details.h)
unfoldable pub columns_in : ℕ → Members → Result (List (List ℕ) × List Column) SchemaFault
columns_in table members =
    array_in table ColumnKey (codes "column") members >>= (λ items.
    if nat_le 1 (count_items items) && nat_le (count_items items) 1600 then columns_from table [] [] items
    else Err (Field table ColumnKey))

-- the table with this number, from 1, by those before it
unfoldable pub table_in : ℕ → List DescribedTable → Members → Result DescribedTable SchemaFault
table_in table before members =
    name_in table members >>= (λ name.
    if is_some (first_that (is_named name) 0 before) then Err (Twice name) else
    number_in table Oid (codes "oid") members >>= (λ oid.
    if is_some (first_that (has_oid oid) 0 before) then Err (Twice name) else
    number_in table File (codes "file") members >>= (λ file.
    if is_some (first_that (has_file file) 0 before) then Err (Twice name) else
    columns_in table members >>= (λ columns.
    if has_other OfTable members then Err (Field table Other)
    else Ok (record { name = name; oid = oid; file = file; column_names = columns.0; columns = columns.1 })))))

-- the table that a value describes
abbrev pub table_of : List DescribedTable → Data → Result DescribedTable SchemaFault
table_of before value = ok_or (as_table value) (Field 0 Table) >>= table_in (length before + 1) before

-- tables behind those that were read
unfoldable pub tables_from : List DescribedTable → Items → Result (List DescribedTable) SchemaFault
tables_from before no_items = Ok before
tables_from before (item value items) =
    table_of before value >>= (λ table. tables_from (before ++ table ∷ []) items)

-- the tables of a database
abbrev pub described_by : ℕ → Items → Result Description SchemaFault
described_by database items =
    tables_from [] items >>= (λ tables. Ok (record { database = database; tables = tables }))

-- a document, with at most 256 tables
unfoldable pub description_in : Members → Result Description SchemaFault
description_in members =
    number_in 0 Database (codes "database") members >>= (λ database.
    array_in 0 Table (codes "table") members >>= (λ items.
    if not (nat_le (count_items items) 256) then Err Many else
    described_by database items >>= (λ described.
    if has_other Top members then Err (Field 0 Other) else Ok described)))

-- the document that a text is: it is UTF-8, and TOML (version 1.1)
abbrev pub IsDocumentOf : List ℕ → Option Members → Type 0
IsDocumentOf text (Some members) = IsUtf8 text × (parse_document text ≡ Some members)
IsDocumentOf text None = IsUtf8 text → parse_document text ≡ None

-- a document's answer, which is refused where there is none
abbrev pub answer_of : Option Members → Result Description SchemaFault
answer_of None = Err Toml
answer_of (Some members) = description_in members

-- the answer to a text of at most 1 MiB, or to a longer one
abbrev pub AnswersUpTo : Bool → List ℕ → Result Description SchemaFault → Type 0
AnswersUpTo true text answer = (document : Option Members) × IsDocumentOf text document × (answer ≡ answer_of document)
AnswersUpTo false text answer = answer ≡ Err TooLong

abbrev pub Answers : List ℕ → Result Description SchemaFault → Type 0
Answers text answer = AnswersUpTo (nat_le (length text) 1048576) text answer

-- what a reader answers to a text, unless memory is wanting
abbrev pub IsAnswer : List ℕ → Result Description SchemaFault → Type 0
IsAnswer text answer = answer ≢ Err Memory → Answers text answer

-- an answer is the one that is expected, unless memory is wanting
abbrev pub SaysFault : {A : Type 0} → SchemaFault → Result A SchemaFault → Type 0
SaysFault TooLong expected = expected ≡ Err TooLong
SaysFault Toml expected = expected ≡ Err Toml
SaysFault (Field table key) expected = expected ≡ Err (Field table key)
SaysFault (Twice name) expected = expected ≡ Err (Twice name)
SaysFault Many expected = expected ≡ Err Many
SaysFault Memory expected = Unit {0}

abbrev pub Says : {A : Type 0} → Result A SchemaFault → Result A SchemaFault → Type 0
Says (Ok value) expected = expected ≡ Ok value
Says (Err fault) expected = SaysFault fault expected
