pub mod BlockRows
pub mod Meaning
pub mod Printed
pub mod Scans
