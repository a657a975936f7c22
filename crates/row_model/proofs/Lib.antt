pub mod Shown
pub mod Places
mod Prefixes
pub mod Stays
pub mod WorkedIds
pub mod WorkedLog
