mod Each
mod Found
mod Permuted
mod Places
pub mod Reading
mod Rows
pub mod SameRow
mod Scanned
mod Shown
