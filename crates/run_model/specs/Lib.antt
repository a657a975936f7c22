pub mod Origin
pub mod Starts
pub mod Leaves
pub mod Laws
