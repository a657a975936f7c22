pub mod Blocks
pub mod Fields
pub mod Stored
pub mod Tuples
