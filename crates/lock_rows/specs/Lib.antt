pub mod Replays
pub mod Tallies
pub mod Calls
