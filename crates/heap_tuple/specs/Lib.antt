pub mod Tuple
pub mod Values
pub mod Lent
