pub mod Division
pub mod Entries
