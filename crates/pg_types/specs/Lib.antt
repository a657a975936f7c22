pub mod Bytes
pub mod Locators
pub mod Names
pub mod Numbers
pub mod SegmentSizes
