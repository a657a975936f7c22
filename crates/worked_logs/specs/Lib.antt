pub mod CheckpointRules
pub mod EndRules
pub mod ArchiveLog
pub mod BrokenLogs
pub mod Clauses
pub mod SecondLog
pub mod MultixactLog
pub mod RemovalLog
