pub mod Digits
pub mod Laws
pub mod Lines
pub mod Meaning
pub mod Requests
pub mod Taking
