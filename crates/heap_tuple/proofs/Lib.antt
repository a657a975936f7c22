pub mod RowLoop
pub mod SameTuples
pub mod TupleFacts
