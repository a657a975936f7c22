pub mod Record
pub mod Parts
pub mod Decoded
pub mod Views
pub mod Spelling
pub mod New
pub mod OfBytes
pub mod Shapes
