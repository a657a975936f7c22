pub mod Deduped
pub mod Ordered
pub mod Slotted
pub mod Steps
pub mod Sets
