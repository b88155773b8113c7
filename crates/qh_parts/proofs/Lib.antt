pub mod Bits
pub mod Chunks
pub mod Looks
pub mod Members
pub mod Positions
pub mod Samples
