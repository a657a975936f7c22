pub mod Changes
pub mod Gap
pub mod HeadKept
pub mod Header
pub mod Restored
pub mod Kept
pub mod Laid
pub mod LineLists
pub mod Overwrite
pub mod Rooms
pub mod Taken
pub mod Written
mod Parted
pub mod Answered
