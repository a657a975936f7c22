pub mod Sees
pub mod WorkedSight
