mod Assigned
pub mod Ids
