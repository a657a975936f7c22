pub mod Kept
pub mod WorkedKept
pub mod WorkedReuse
