pub mod Appending
pub mod Beginning
pub mod Begins
pub mod Ending
pub mod Legal
pub mod Program
pub mod Running
