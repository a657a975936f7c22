pub mod Bytes
pub mod Locators
mod Hex
mod Segments
mod Slashes
pub mod SpelledNumbers
