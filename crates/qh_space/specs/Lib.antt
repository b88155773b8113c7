pub mod Receiving
pub mod Sending
pub mod Space
pub mod Timers
