pub mod LegalTransactions
pub mod Promotions
pub mod StandbyStates
pub mod TransactionLaws
pub mod Transactions
pub mod WorkedLife
