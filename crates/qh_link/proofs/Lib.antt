pub mod Events
pub mod Due
pub mod Late
pub mod Kept
pub mod Sizes
