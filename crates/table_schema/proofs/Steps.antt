-- Steps that give a value or a refusal, and loops over what is read.
use Rattle.std.proofs.Common.{true, false, ◌&&◌, nat_le, le-leb, codes, IsUtf8, option_and_then, ◌≡◌, ◌≢◌, ◌<◌, ◌≤◌, ℕ, ◌+◌, Bool, List, [], ◌∷◌, ◌++◌, length, drop, get_or, Some, Result, Ok, Err, refl, sym, ap, ◌∙◌, append_assoc, length-append, arith, if◌then◌else◌}
use Rattle.std.proofs.lemmas.List.{append-nil, drop_more, drop_all}
use Rattle.toml.specs.Data.{item, Members, get_member, as_array}
use Rattle.toml.specs.Parse.{parse_document}
use Rattle.toml.specs.View.{view, items_view}
use Rattle.toml.specs.declared.value.Value.{Value}
use Rattle.toml.proofs.Views.{items_view-drop}
use Rattle.heap_tuple.specs.declared.cell.Cell.{Cell}
use Rattle.heap_tuple.specs.declared.cell.Column.{Column}
use Rattle.table_schema.specs.declared.fault.SchemaFault.{SchemaFault}
use Rattle.table_schema.specs.declared.fault.SchemaFault.TheVariants.{TooLong, Toml, Field, Twice, Many, Memory}
use Rattle.table_schema.specs.declared.fault.Key.TheVariants.{Database, Column as ColumnKey, Other}
use Rattle.table_schema.specs.declared.members.Level.TheVariants.{Top}
use Rattle.table_schema.specs.Description.{Description, DescribedTable, first_that}
use Rattle.table_schema.specs.Reading.{IsAnswer, number_in, columns_in, description_in, has_other, ◌>>=◌, Says, SaysFault, count_items, column_of, columns_from, table_of, tables_from, described_by}
use Rattle.table_schema.specs.RowText.{cell_text, further_text, dash_before, hex_byte, uuid_from}

-- a refusal says itself
says_itself : (A : Type 0) (fault : SchemaFault) → SaysFault {A = A} fault (Err fault)
says_itself A TooLong = refl
says_itself A Toml = refl
says_itself A (Field table key) = refl
says_itself A (Twice name) = refl
says_itself A Many = refl
says_itself A Memory = tt

-- a refusal that is known exactly
pub says_refusal : {A : Type 0} (fault : SchemaFault) (expected : Result A SchemaFault) → expected ≡ Err fault → SaysFault fault expected
says_refusal {A} fault expected e = rw e (says_itself A fault)

-- a step's refusal is that of the whole
pub says_onward : {A B : Type 0} (fault : SchemaFault) (step : Result A SchemaFault) (rest : A → Result B SchemaFault) → SaysFault fault step → SaysFault fault (step >>= rest)
says_onward TooLong step rest e = ap (λ r. r >>= rest) e
says_onward Toml step rest e = ap (λ r. r >>= rest) e
says_onward (Field table key) step rest e = ap (λ r. r >>= rest) e
says_onward (Twice name) step rest e = ap (λ r. r >>= rest) e
says_onward Many step rest e = ap (λ r. r >>= rest) e
says_onward Memory step rest e = tt

-- a step's refusal along an equation
pub says_along : {A : Type 0} (fault : SchemaFault) (x y : Result A SchemaFault) → x ≡ y → SaysFault fault x → SaysFault fault y
says_along fault x y e h = rw (← e) h

-- an answer that is not want of memory is the one that is expected
pub says_exactly : {A : Type 0} (r expected : Result A SchemaFault) → Says r expected → r ≢ Err Memory → r ≡ expected
says_exactly (Ok x) expected h n = sym h
says_exactly (Err TooLong) expected h n = sym h
says_exactly (Err Toml) expected h n = sym h
says_exactly (Err (Field table key)) expected h n = sym h
says_exactly (Err (Twice name)) expected h n = sym h
says_exactly (Err Many) expected h n = sym h
says_exactly (Err Memory) expected h n = absurd (n refl)

-- how many items there are
pub count_of : (vs : List Value) → count_items (items_view vs) ≡ length vs
count_of [] = refl
count_of (v ∷ vs) = omega (arith, count_of vs)

-- one more
pub grown : {A : Type 0} (xs : List A) (x : A) (more : List A) → more ≡ xs ++ x ∷ [] → length more ≡ length xs + 1
grown xs x more e = omega (arith, ap length e, length-append xs (x ∷ []))

-- the next one of those in which the first that passes is looked for
pub first_step : {A : Type 0} (test : A → Bool) (n : ℕ) (xs : List A) (x : A) → n < length xs → x ≡ get_or xs n x → first_that test n (drop n xs) ≡ (if test x then Some n else first_that test (n + 1) (drop (n + 1) xs))
first_step test n xs x h e = ap (first_that test n) (drop_more xs n x h) ∙ ap (λ y. first_that test n (y ∷ drop (n + 1) xs)) (sym e)

-- the next byte of a uuid
pub uuid_step : (i : ℕ) (bytes : List ℕ) (b : ℕ) (out more all : List ℕ) → i < length bytes → b ≡ get_or bytes i b → out ++ uuid_from i (drop i bytes) ≡ all → more ≡ out ++ (dash_before i ++ hex_byte b) → more ++ uuid_from (i + 1) (drop (i + 1) bytes) ≡ all
uuid_step i bytes b out more all h e before pushed =
    ap (λ xs. xs ++ uuid_from (i + 1) (drop (i + 1) bytes)) pushed
    ∙ append_assoc out (dash_before i ++ hex_byte b) (uuid_from (i + 1) (drop (i + 1) bytes))
    ∙ ap (λ y. out ++ uuid_from i (y ∷ drop (i + 1) bytes)) e
    ∙ sym (ap (λ xs. out ++ uuid_from i xs) (drop_more bytes i b h))
    ∙ before

pub uuid_end : (i : ℕ) (bytes out all : List ℕ) → length bytes ≤ i → out ++ uuid_from i (drop i bytes) ≡ all → out ≡ all
uuid_end i bytes out all h before = sym (ap (λ xs. out ++ uuid_from i xs) (drop_all i bytes h) ∙ append-nil out) ∙ before

-- the next value of a row
pub further_step : (i : ℕ) (columns : List Column) (cells : List Cell) (column : Column) (cell : Cell) (out more all : List ℕ) → i < length columns → column ≡ get_or columns i column → i < length cells → cell ≡ get_or cells i cell → out ++ further_text (drop i columns) (drop i cells) ≡ all → more ≡ out ++ (9 ∷ cell_text column.kind cell) → more ++ further_text (drop (i + 1) columns) (drop (i + 1) cells) ≡ all
further_step i columns cells column cell out more all hc ec h e before pushed =
    ap (λ xs. xs ++ further_text (drop (i + 1) columns) (drop (i + 1) cells)) pushed
    ∙ append_assoc out (9 ∷ cell_text column.kind cell) (further_text (drop (i + 1) columns) (drop (i + 1) cells))
    ∙ ap (λ y. out ++ further_text (y ∷ drop (i + 1) columns) (cell ∷ drop (i + 1) cells)) ec
    ∙ sym (ap (λ xs. out ++ further_text xs (cell ∷ drop (i + 1) cells)) (drop_more columns i column hc))
    ∙ ap (λ y. out ++ further_text (drop i columns) (y ∷ drop (i + 1) cells)) e
    ∙ sym (ap (λ xs. out ++ further_text (drop i columns) xs) (drop_more cells i cell h))
    ∙ before

further_none : (columns : List Column) → further_text columns [] ≡ []
further_none [] = refl
further_none (column ∷ columns) = refl

pub further_end : (i : ℕ) (columns : List Column) (cells : List Cell) (out all : List ℕ) → length cells ≤ i → out ++ further_text (drop i columns) (drop i cells) ≡ all → out ≡ all
further_end i columns cells out all h before =
    sym (ap (λ xs. out ++ further_text (drop i columns) xs) (drop_all i cells h) ∙ ap (λ xs. out ++ xs) (further_none (drop i columns)) ∙ append-nil out) ∙ before

pub further_stops : (i : ℕ) (columns : List Column) (cells : List Cell) (out all : List ℕ) → length columns ≤ i → out ++ further_text (drop i columns) (drop i cells) ≡ all → out ≡ all
further_stops i columns cells out all h before =
    sym (ap (λ xs. out ++ further_text xs (drop i cells)) (drop_all i columns h) ∙ append-nil out) ∙ before

-- the next column that is read
columns_step : (table : ℕ) (names : List (List ℕ)) (columns : List Column) (values : List Value) (i : ℕ) (value : Value) → i < length values → value ≡ get_or values i value
    → columns_from table names columns (items_view (drop i values)) ≡ (column_of table names (view value) >>= (λ column. columns_from table (names ++ column.0 ∷ []) (columns ++ column.1 ∷ []) (items_view (drop (i + 1) values))))
unfolding columns_from
columns_step table names columns values i value h e =
    ap (columns_from table names columns) (items_view-drop values i value h)
    ∙ ap (λ v. columns_from table names columns (item (view v) (items_view (drop (i + 1) values)))) (sym e)

pub column_done : (table : ℕ) (names names' : List (List ℕ)) (columns columns' : List Column) (values : List Value) (i : ℕ) (value : Value) (name : List ℕ) (column : Column) (whole : Result (List (List ℕ) × List Column) SchemaFault) → i < length values → value ≡ get_or values i value
    → column_of table names (view value) ≡ Ok (name, column) → columns_from table names columns (items_view (drop i values)) ≡ whole → names' ≡ names ++ name ∷ [] → columns' ≡ columns ++ column ∷ []
    → columns_from table names' columns' (items_view (drop (i + 1) values)) ≡ whole
column_done table names names' columns columns' values i value name column whole h e found before n c =
    ap (λ xs. columns_from table xs columns' (items_view (drop (i + 1) values))) n
    ∙ ap (λ xs. columns_from table (names ++ name ∷ []) xs (items_view (drop (i + 1) values))) c
    ∙ sym (columns_step table names columns values i value h e ∙ ap (λ r. r >>= (λ column. columns_from table (names ++ column.0 ∷ []) (columns ++ column.1 ∷ []) (items_view (drop (i + 1) values)))) found)
    ∙ before

pub column_refused : (table : ℕ) (names : List (List ℕ)) (columns : List Column) (values : List Value) (i : ℕ) (value : Value) (fault : SchemaFault) (whole : Result (List (List ℕ) × List Column) SchemaFault) → i < length values → value ≡ get_or values i value
    → SaysFault fault (column_of table names (view value)) → columns_from table names columns (items_view (drop i values)) ≡ whole → SaysFault fault whole
column_refused table names columns values i value fault whole h e says before =
    says_along fault _ whole before
    (says_along fault _ _ (sym (columns_step table names columns values i value h e))
    (says_onward fault (column_of table names (view value)) (λ column. columns_from table (names ++ column.0 ∷ []) (columns ++ column.1 ∷ []) (items_view (drop (i + 1) values))) says))

pub columns_end : (table : ℕ) (names : List (List ℕ)) (columns : List Column) (values : List Value) (i : ℕ) → length values ≤ i → columns_from table names columns (items_view (drop i values)) ≡ Ok (names, columns)
unfolding columns_from
columns_end table names columns values i h = ap (λ vs. columns_from table names columns (items_view vs)) (drop_all i values h)

-- the next table that is read
tables_step : (before : List DescribedTable) (values : List Value) (i : ℕ) (value : Value) → i < length values → value ≡ get_or values i value
    → tables_from before (items_view (drop i values)) ≡ (table_of before (view value) >>= (λ table. tables_from (before ++ table ∷ []) (items_view (drop (i + 1) values))))
unfolding tables_from
tables_step before values i value h e =
    ap (tables_from before) (items_view-drop values i value h)
    ∙ ap (λ v. tables_from before (item (view v) (items_view (drop (i + 1) values)))) (sym e)

pub table_done : (before before' : List DescribedTable) (values : List Value) (i : ℕ) (value : Value) (table : DescribedTable) (whole : Result (List DescribedTable) SchemaFault) → i < length values → value ≡ get_or values i value
    → table_of before (view value) ≡ Ok table → tables_from before (items_view (drop i values)) ≡ whole → before' ≡ before ++ table ∷ [] → tables_from before' (items_view (drop (i + 1) values)) ≡ whole
table_done before before' values i value table whole h e found said pushed =
    ap (λ xs. tables_from xs (items_view (drop (i + 1) values))) pushed
    ∙ sym (tables_step before values i value h e ∙ ap (λ r. r >>= (λ table. tables_from (before ++ table ∷ []) (items_view (drop (i + 1) values)))) found)
    ∙ said

pub table_refused : (database : ℕ) (before : List DescribedTable) (values : List Value) (i : ℕ) (value : Value) (fault : SchemaFault) → i < length values → value ≡ get_or values i value
    → SaysFault fault (table_of before (view value)) → tables_from before (items_view (drop i values)) ≡ tables_from [] (items_view values) → SaysFault fault (described_by database (items_view values))
table_refused database before values i value fault h e says said =
    says_onward fault (tables_from [] (items_view values)) (λ tables. Ok (record { database = database; tables = tables }))
    (says_along fault _ _ said
    (says_along fault _ _ (sym (tables_step before values i value h e))
    (says_onward fault (table_of before (view value)) (λ table. tables_from (before ++ table ∷ []) (items_view (drop (i + 1) values))) says)))

pub tables_end : (before : List DescribedTable) (values : List Value) (i : ℕ) → length values ≤ i → tables_from before (items_view (drop i values)) ≡ Ok before
unfolding tables_from
tables_end before values i h = ap (λ vs. tables_from before (items_view vs)) (drop_all i values h)

-- an array of columns, by the number of its elements
pub columns_miscounted : (table : ℕ) (ms : Members) (vs : List Value) → Some (items_view vs) ≡ option_and_then as_array (get_member (codes "column") ms) → (nat_le 1 (length vs) && nat_le (length vs) 1600) ≡ false → columns_in table ms ≡ Err (Field table ColumnKey)
unfolding columns_in
columns_miscounted table ms vs there no_count = rw (← there, count_of vs, no_count) refl

pub columns_counted : (table : ℕ) (ms : Members) (vs : List Value) → Some (items_view vs) ≡ option_and_then as_array (get_member (codes "column") ms) → (nat_le 1 (length vs) && nat_le (length vs) 1600) ≡ true → columns_in table ms ≡ columns_from table [] [] (items_view vs)
unfolding columns_in
columns_counted table ms vs there count = rw (← there, count_of vs, count) refl

-- the whole of the tables
pub tables_all : (database : ℕ) (before : List DescribedTable) (values : List Value) (i : ℕ) → length values ≤ i → tables_from before (items_view (drop i values)) ≡ tables_from [] (items_view values) → described_by database (items_view values) ≡ Ok (record { database = database; tables = before })
tables_all database before values i h said = ap (λ r. r >>= (λ tables. Ok (record { database = database; tables = tables }))) (sym said ∙ tables_end before values i h)

-- a document with its database and an array of tables
pub too_many_tables : (ms : Members) (database : ℕ) (vs : List Value) → number_in 0 Database (codes "database") ms ≡ Ok database → Some (items_view vs) ≡ option_and_then as_array (get_member (codes "table") ms) → nat_le (length vs) 256 ≡ false → description_in ms ≡ Err Many
unfolding description_in
too_many_tables ms database vs number there many = rw (number, ← there, count_of vs, many) refl

pub tables_counted : (ms : Members) (database : ℕ) (vs : List Value) → number_in 0 Database (codes "database") ms ≡ Ok database → Some (items_view vs) ≡ option_and_then as_array (get_member (codes "table") ms) → nat_le (length vs) 256 ≡ true → description_in ms ≡ (described_by database (items_view vs) >>= (λ described. if has_other Top ms then Err (Field 0 Other) else Ok described))
unfolding description_in
tables_counted ms database vs number there few = rw (number, ← there, count_of vs, few) refl

-- the answer to a text that is a document
pub answers_document : (text : List ℕ) (ms : Members) (r : Result Description SchemaFault) → length text ≤ 1048576 → IsUtf8 text → parse_document text ≡ Some ms → Says r (description_in ms) → IsAnswer text r
answers_document text ms r short utf8 parsed says not_memory = rw (le-leb (length text) 1048576 short) (Some ms, (utf8, parsed), says_exactly r (description_in ms) says not_memory)
