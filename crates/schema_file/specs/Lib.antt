pub mod Meaning
pub mod SchemaFile
