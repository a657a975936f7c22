pub mod PageLoop
pub mod PageAnswer
mod Printing
