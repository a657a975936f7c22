pub mod WorkedArchive
