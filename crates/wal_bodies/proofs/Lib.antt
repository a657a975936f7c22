pub mod Walks
pub mod ShortXids
