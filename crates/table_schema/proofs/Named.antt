-- A text has one answer, which is never want of memory.
use Rattle.std.proofs.Common.{◌≡◌, ◌≢◌, ℕ, ◌+◌, Bool, true, false, nat_le, List, [], ◌∷◌, ◌++◌, length, Option, Some, None, Result, Ok, Err, codes, ok_or, refl, sym, ap, ◌∙◌, if◌then◌else◌}
use Rattle.toml.specs.Data.{Data, Items, no_items, item, Members, as_table}
use Rattle.toml.specs.Parse.{parse_document}
use Rattle.heap_tuple.specs.declared.cell.Column.{Column}
use Rattle.table_schema.specs.declared.fault.Key.{Key}
use Rattle.table_schema.specs.declared.fault.Key.TheVariants.{Database, Table, Oid, File, Column as ColumnKey, Other}
use Rattle.table_schema.specs.declared.fault.SchemaFault.{SchemaFault}
use Rattle.table_schema.specs.declared.fault.SchemaFault.TheVariants.{Toml, Field, Twice, Many, Memory}
use Rattle.table_schema.specs.Description.{Description, DescribedTable}
use Rattle.table_schema.specs.Laws.{OneDescription, RefusalsAreNamed}
use Rattle.table_schema.specs.Reading.{◌>>=◌, AnswersUpTo, IsDocumentOf, answer_of, array_in, column_in, column_of, columns_from, columns_in, described_by, description_in, kind_in, missing_in, name_in, number_in, table_in, table_of, tables_from}

not_both : (found : Option Members) (ms : Members) → found ≡ Some ms → found ≡ None → ⊥
not_both found ms e f = cc

-- one document is that of a text
one_document :
    (text : List ℕ) (a b : Option Members) → IsDocumentOf text a → IsDocumentOf text b → a ≡ b
one_document text None None p q = refl
one_document text None (Some b) p (utf8, q) = absurd (not_both (parse_document text) b q (p utf8))
one_document text (Some a) None (utf8, p) q = absurd (not_both (parse_document text) a p (q utf8))
one_document text (Some a) (Some b) (utf8, p) (other, q) = sym p ∙ q

one_up_to :
    (short : Bool) (text : List ℕ) (a b : Result Description SchemaFault) → AnswersUpTo short text a → AnswersUpTo short text b
    → a ≡ b
one_up_to true text a b (document, is, e) (other, was, f) =
    e ∙ ap answer_of (one_document text document other is was) ∙ sym f
one_up_to false text a b e f = e ∙ sym f

pub one_description_holds : OneDescription
one_description_holds text a b p q = one_up_to (nat_le (length text) 1048576) text a b p q

-- a result that is not refused for want of memory
abbrev Named : {A : Type 0} → Result A SchemaFault → Type 0
Named result = result ≢ Err Memory

named_ok : {A : Type 0} (x : A) → Named (Ok x)
named_ok x e = cc

named_err : {A : Type 0} (fault : SchemaFault) → fault ≢ Memory → Named {A = A} (Err fault)
named_err fault other e = other cc

named_or : {A : Type 0} (found : Option A) (fault : SchemaFault) → fault ≢ Memory → Named (ok_or found fault)
named_or (Some x) fault other e = cc
named_or None fault other e = other cc

named_then :
    {A B : Type 0} (step : Result A SchemaFault) (rest : A → Result B SchemaFault) → Named step
    → ((x : A) → Named (rest x)) → Named (step >>= rest)
named_then (Ok x) rest first then_ = then_ x
named_then (Err fault) rest first then_ = λ e. first cc

named_if :
    {A : Type 0} (test : Bool) (yes_ no_ : Result A SchemaFault) → Named yes_ → Named no_ → Named (if test then yes_ else no_)
named_if true yes_ no_ a b = a
named_if false yes_ no_ a b = b

field : (table : ℕ) (key : Key) → Field table key ≢ Memory
field table key e = cc

twice : (name : List ℕ) → Twice name ≢ Memory
twice name e = cc

-- each step
name_named : (table : ℕ) (ms : Members) → Named (name_in table ms)
unfolding name_in
name_named table ms = named_or _ _ (field table _)

number_named : (table : ℕ) (key : Key) (word : List ℕ) (ms : Members) → Named (number_in table key word ms)
unfolding number_in
number_named table key word ms = named_or _ _ (field table key)

kind_named : (table : ℕ) (ms : Members) → Named (kind_in table ms)
unfolding kind_in
kind_named table ms = named_or _ _ (field table _)

missing_named : (table : ℕ) (kind : _) (ms : Members) → Named (missing_in table kind ms)
unfolding missing_in
missing_named table kind ms = named_or _ _ (field table _)

array_named : (table : ℕ) (key : Key) (word : List ℕ) (ms : Members) → Named (array_in table key word ms)
array_named table key word ms = named_or _ _ (field table key)

column_in_named : (table : ℕ) (names : List (List ℕ)) (ms : Members) → Named (column_in table names ms)
unfolding column_in
column_in_named table names ms =
    named_then (name_in table ms) _ (name_named table ms) (λ name.
    named_if _ _ _ (named_err (Twice name) (twice name))
    (named_then (kind_in table ms) _ (kind_named table ms) (λ kind.
    named_then (missing_in table kind ms) _ (missing_named table kind ms) (λ missing.
    named_if _ _ _ (named_err (Field table Other) (field table Other)) (named_ok _)))))

column_named : (table : ℕ) (names : List (List ℕ)) (value : Data) → Named (column_of table names value)
column_named table names value =
    named_then (ok_or (as_table value) (Field table ColumnKey)) _ (named_or _ _ (field table ColumnKey))
    (column_in_named table names)

columns_named :
    (table : ℕ) (names : List (List ℕ)) (columns : List Column) (items : Items) → Named (columns_from table names columns items)
unfolding columns_from
columns_named table names columns no_items = named_ok _
columns_named table names columns (item value items) =
    named_then (column_of table names value) _ (column_named table names value) (λ column.
    columns_named table (names ++ column.0 ∷ []) (columns ++ column.1 ∷ []) items)

columns_in_named : (table : ℕ) (ms : Members) → Named (columns_in table ms)
unfolding columns_in
columns_in_named table ms =
    named_then (array_in table ColumnKey (codes "column") ms) _ (array_named table ColumnKey (codes "column") ms) (λ items.
    named_if _ _ _ (columns_named table [] [] items) (named_err (Field table ColumnKey) (field table ColumnKey)))

table_in_named : (table : ℕ) (before : List DescribedTable) (ms : Members) → Named (table_in table before ms)
unfolding table_in
table_in_named table before ms =
    named_then (name_in table ms) _ (name_named table ms) (λ name.
    named_if _ _ _ (named_err (Twice name) (twice name))
    (named_then (number_in table Oid (codes "oid") ms) _ (number_named table Oid (codes "oid") ms) (λ oid.
    named_if _ _ _ (named_err (Twice name) (twice name))
    (named_then (number_in table File (codes "file") ms) _ (number_named table File (codes "file") ms) (λ file.
    named_if _ _ _ (named_err (Twice name) (twice name))
    (named_then (columns_in table ms) _ (columns_in_named table ms) (λ columns.
    named_if _ _ _ (named_err (Field table Other) (field table Other)) (named_ok _))))))))

table_named : (before : List DescribedTable) (value : Data) → Named (table_of before value)
table_named before value =
    named_then (ok_or (as_table value) (Field 0 Table)) _ (named_or _ _ (field 0 Table)) (table_in_named (length before + 1) before)

tables_named : (before : List DescribedTable) (items : Items) → Named (tables_from before items)
unfolding tables_from
tables_named before no_items = named_ok _
tables_named before (item value items) =
    named_then (table_of before value) _ (table_named before value) (λ table. tables_named (before ++ table ∷ []) items)

description_named : (ms : Members) → Named (description_in ms)
unfolding description_in
description_named ms =
    named_then (number_in 0 Database (codes "database") ms) _ (number_named 0 Database (codes "database") ms) (λ database.
    named_then (array_in 0 Table (codes "table") ms) _ (array_named 0 Table (codes "table") ms) (λ items.
    named_if _ _ _ (named_err Many many)
    (named_then (described_by database items) _ (described_named database items) (λ described.
    named_if _ _ _ (named_err (Field 0 Other) (field 0 Other)) (named_ok _)))))
  where
    many : Many ≢ Memory
    many e = cc

    described_named : (database : ℕ) (items : Items) → Named (described_by database items)
    described_named database items = named_then (tables_from [] items) _ (tables_named [] items) (λ tables. named_ok _)

document_named : (document : Option Members) → Named (answer_of document)
document_named None = named_err Toml toml
  where
    toml : Toml ≢ Memory
    toml e = cc
document_named (Some ms) = description_named ms

up_to_named : (short : Bool) (text : List ℕ) → AnswersUpTo short text (Err Memory) → ⊥
up_to_named true text (document, is, e) = document_named document (sym e)
up_to_named false text e = cc

pub refusals_are_named_holds : RefusalsAreNamed
refusals_are_named_holds text answers = up_to_named (nat_le (length text) 1048576) text answers
