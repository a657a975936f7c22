pub mod State
pub mod Sees
pub mod TransactionsOf
