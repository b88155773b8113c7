pub mod Ledger
pub mod Owing
