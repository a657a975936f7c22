pub mod ArchiveLog
pub mod Bytes
pub mod Ends
