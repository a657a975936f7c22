pub mod AbstractStandby
pub mod Represents
pub mod WholeScans
pub mod GivenRows
pub mod ScanAtEnd
