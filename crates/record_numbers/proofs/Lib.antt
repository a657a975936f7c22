pub mod Gathering
pub mod Numbers
pub mod Typing
