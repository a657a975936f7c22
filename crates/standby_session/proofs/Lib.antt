pub mod Appending
mod Talking
mod Given
mod Holding
mod Lines
mod Steps
mod Replies
mod Asking
mod Paging
mod Scanning
