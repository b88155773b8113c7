pub mod Lends
pub mod Message
pub mod Service
