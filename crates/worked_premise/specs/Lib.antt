pub mod Premise
pub mod WorkedSchema
