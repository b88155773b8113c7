pub mod Places
pub mod Turns
pub mod Seats
pub mod Guards
