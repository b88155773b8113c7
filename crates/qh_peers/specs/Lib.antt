pub mod Ends
pub mod Greets
pub mod Ids
