pub mod Refused
pub mod Heads
pub mod Redone
pub mod Laws
pub mod After
pub mod TupleHeads
pub mod OneBlock
