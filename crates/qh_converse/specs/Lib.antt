pub mod Converses
pub mod Linked
pub mod Parts
pub mod Settled
