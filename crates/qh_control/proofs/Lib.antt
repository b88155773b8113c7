pub mod Acked
pub mod Kept
pub mod Logs
pub mod Lost
pub mod Packed
pub mod Taken
