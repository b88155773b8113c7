pub mod Sending
pub mod Receiving
pub mod Within
pub mod Waiting
