pub mod Owed
pub mod Settled
