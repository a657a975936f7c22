pub mod Archived
pub mod Laws
pub mod Log
