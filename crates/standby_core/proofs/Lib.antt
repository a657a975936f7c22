pub mod Cancelled
pub mod Opening
pub mod Paged
pub mod Places
pub mod Refusing
pub mod Replaying
