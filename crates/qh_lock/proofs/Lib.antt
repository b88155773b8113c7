pub mod Counts
pub mod Cores
pub mod Moves
pub mod Orders
pub mod Steps
