pub mod Rooms
pub mod Sections
pub mod Spelled
