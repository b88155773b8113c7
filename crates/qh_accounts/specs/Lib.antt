pub mod Accounts
pub mod Carried
