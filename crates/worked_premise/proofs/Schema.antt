-- The text of the description, read in the logic.
use Rattle.std.proofs.Common.{◌≡◌, ℕ, pos, List, Some, Ok, refl, sym, codes}
use Rattle.std.specs.Float.Numeral.{scan_numeral}
use Rattle.std.specs.Prelude.{IsUtf8}
use Rattle.toml_parser.specs.Lexical.{skip_ws, skip_from}
use Rattle.toml_parser.specs.Numbers.{underscore_fits, prefixed_integer, decimal_number, plain_number, number, word_value, word_len, unquoted}
use Rattle.toml_parser.specs.Strings.{hex_escape, escape_char, escape, special, body, one_line, quoted, simple_key, key_after}
use Rattle.toml.specs.Data.{Data, string, integer, array, table, Items, no_items, item, Members, no_members, member}
use Rattle.toml.specs.Parse.{after_element, key_equals, items, members, atom, val, header_key, expression, line, lines, skip_bom, parse_document}
use Rattle.toml.specs.Tables.{along_header, along_dots, at_key, define}
use Rattle.table_schema.specs.Reading.{number_in, name_in, is_name, kind_of, kind_in, cell_from, missing_in, is_key, column_in, columns_from, columns_in, table_in, tables_from, description_in}
use Rattle.worked_premise.specs.WorkedSchema.{SchemaIsRead, tables, text}

abbrev column : List ℕ → List ℕ → Data
column name kind = table (member (codes "name") (string name) (member (codes "type") (string kind) no_members))

abbrev described : List ℕ → ℕ → Items → Data
described name file columns =
    table
    (member (codes "column") (array columns)
    (member (codes "file") (integer (pos file)) (member (codes "name") (string name) (member (codes "oid") (integer (pos file)) no_members))))

abbrev document : Members
document =
    member (codes "database") (integer (pos 16384))
    (member (codes "table")
    (array
    (item
    (described (codes "t") 16385
    (item (column (codes "id") (codes "int4")) (item (column (codes "note") (codes "text")) no_items)))
    (item (described (codes "u") 16390 (item (column (codes "id") (codes "int4")) no_items)) no_items))) no_members)

pub is_document : parse_document text ≡ Some document
unfolding text skip_ws skip_from underscore_fits prefixed_integer decimal_number plain_number number word_value word_len unquoted hex_escape escape_char escape special body one_line quoted simple_key key_after after_element key_equals items members atom val header_key expression line lines skip_bom parse_document along_header along_dots at_key define scan_numeral
is_document = refl

-- it is ASCII
is_utf8 : IsUtf8 text
unfolding text lib.Utf8.encode
is_utf8 = (text, (refl, refl))

are_described : description_in document ≡ Ok tables
unfolding number_in name_in is_name kind_of kind_in cell_from missing_in is_key column_in columns_from columns_in table_in tables_from description_in
are_described = refl

pub schema_is_read : SchemaIsRead
unfolding text
schema_is_read = (Some document, (is_utf8, is_document), sym are_described)
