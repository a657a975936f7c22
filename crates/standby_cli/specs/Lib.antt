pub mod Endings
pub mod LegalRun
pub mod Meaning
pub mod Runs
pub mod Watched
