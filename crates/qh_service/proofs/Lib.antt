pub mod Cuts
pub mod Sizes
