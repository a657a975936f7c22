-- The description of the example: t and u of database 16384.
-- Sources: pg_class.h, pg_attribute.h.
use Rattle.std.specs.Prelude.{ℕ, List, [], ◌∷◌, ◌++◌, Option, Some, None, Ok, nat_eq, codes, if◌then◌else◌}
use Rattle.std.specs.Cmp.Lexicographic.{pointwise}
use Rattle.heap_tuple.specs.declared.cell.Kind.TheVariants.{Int4, Text}
use Rattle.table_schema.specs.Description.{Description, DescribedTable}
use Rattle.table_schema.specs.Reading.{Answers}

-- t: id int4, note text
abbrev pub table_t : DescribedTable
table_t = record {
  name = codes "t";
  oid = 16385;
  file = 16385;
  column_names = codes "id" ∷ codes "note" ∷ [];
  columns = record { kind = Int4; missing = None } ∷ record { kind = Text; missing = None } ∷ [];
}

-- u: id int4
abbrev pub table_u : DescribedTable
table_u = record {
  name = codes "u";
  oid = 16390;
  file = 16390;
  column_names = codes "id" ∷ [];
  columns = record { kind = Int4; missing = None } ∷ [];
}

abbrev pub tables : Description
tables = record { database = 16384; tables = table_t ∷ table_u ∷ [] }

-- a column's lines
abbrev pub column_text : List ℕ → List ℕ → List ℕ
column_text name kind =
    codes "[[table.column]]\nname = \"" ++ name ++ codes "\"\ntype = \"" ++ kind ++ codes "\"\n"

-- the text of the base folder's file
unfoldable pub text : List ℕ
text =
    codes "database = 16384\n\n[[table]]\nname = \"t\"\noid = 16385\nfile = 16385\n\n"
    ++ column_text (codes "id") (codes "int4") ++ codes "\n" ++ column_text (codes "note") (codes "text") ++ codes "\n"
    ++ codes "[[table]]\nname = \"u\"\noid = 16390\nfile = 16390\n\n" ++ column_text (codes "id") (codes "int4")

abbrev pub base : List ℕ → Option (List ℕ)
base name = if pointwise nat_eq name (codes "schema.toml") then Some text else None

-- it describes these tables
abbrev pub SchemaIsRead : Type 0
SchemaIsRead = Answers text (Ok tables)
