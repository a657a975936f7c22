pub mod Ids
pub mod Slots
pub mod Known
