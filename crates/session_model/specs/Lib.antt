pub mod Events
pub mod NodeSteps
pub mod Answers
pub mod Texts
pub mod Sessions
pub mod Scans
pub mod Laws
