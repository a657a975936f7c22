pub mod Content
pub mod Held
pub mod Lending
pub mod Seen
