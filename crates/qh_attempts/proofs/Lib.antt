pub mod Names
pub mod Slots
