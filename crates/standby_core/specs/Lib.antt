pub mod Standby
pub mod Replay
pub mod Steps
pub mod View
pub mod Scans
pub mod Pages
pub mod Conflicts
pub mod Horizon
