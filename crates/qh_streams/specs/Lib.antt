pub mod Halves
pub mod Items
pub mod Streams
pub mod Tracked
pub mod Turns
