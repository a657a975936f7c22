pub mod Description
pub mod Keys
pub mod Laws
pub mod Reading
pub mod RowText
pub mod Tables
