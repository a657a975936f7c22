pub mod Follows
pub mod NodeOnce
pub mod Once
pub mod ScansFollow
pub mod Talking
