-- What is read of a file means this.
use Rattle.std.specs.Prelude.{Ok, Err}
use Rattle.schema_file.specs.SchemaFile.{Reading, Absent, Read}
use Rattle.schema_file.specs.declared.file.SchemaFile.{SchemaFile}
use Rattle.schema_file.specs.declared.file.SchemaFile.TheVariants as file

abbrev pub reading : SchemaFile → Reading
reading file.Absent = Absent
reading (file.Described tables) = Read (Ok tables)
reading (file.Refused fault) = Read (Err fault)
