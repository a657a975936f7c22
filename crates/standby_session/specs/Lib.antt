pub mod Answering
pub mod Printed
pub mod Answered
pub mod Held
pub mod Scanned
pub mod Scanning
