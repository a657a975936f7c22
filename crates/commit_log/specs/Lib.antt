pub mod Packed
pub mod Log
