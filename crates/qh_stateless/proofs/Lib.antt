pub mod Closes
pub mod Headers
pub mod Malformed
pub mod Negotiations
pub mod OfLong
pub mod Resets
