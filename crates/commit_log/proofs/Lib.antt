pub mod Packing
pub mod Pages
pub mod Trees
