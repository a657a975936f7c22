-- The words for the keys of a description.
use Rattle.std.specs.Prelude.{ℕ, List, codes}
use Rattle.table_schema.specs.declared.fault.Key.{Key}
use Rattle.table_schema.specs.declared.fault.Key.TheVariants as key

-- a key of a description, as it is written there; `other` stands for one that its level does not have
abbrev pub key_text : Key → List ℕ
key_text key.Database = codes "database"
key_text key.Table = codes "table"
key_text key.Name = codes "name"
key_text key.Oid = codes "oid"
key_text key.File = codes "file"
key_text key.Column = codes "column"
key_text key.Kind = codes "type"
key_text key.Missing = codes "missing"
key_text key.Other = codes "other"
