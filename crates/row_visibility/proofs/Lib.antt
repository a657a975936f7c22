mod Along
pub mod Forgetting
mod Statuses
mod Updaters
mod Visible
mod WorkedSight
